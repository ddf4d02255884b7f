-- Laws of a model file that was written and is read again.
pub mod Spelling
pub mod Numbers
pub mod Rows
pub mod Cells
pub mod Statements
pub mod Headers
pub mod Valid
pub mod ReadsBack
pub mod WholeFile
