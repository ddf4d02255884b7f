-- Laws of sums over the cells of a column.
pub mod Cells
