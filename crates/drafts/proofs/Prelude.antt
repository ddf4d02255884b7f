-- What more than one proof of this crate names.
pub use Rattle.integers.proofs.Kit.{◌∙◌, ◌≤◌, ◌+◌, ◌*◌, arith, mul-le-mul_right, eqb, to_z-of_z}
pub use Rattle.drafts.proofs.Marks.{Marking, marking-more, marking-start, stands-within, write-marks}
pub use Rattle.integers.proofs.Lists.{row_below}
pub use Rattle.integers.specs.Search.{some}
