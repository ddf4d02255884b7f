-- What more than one proof of this crate names.
pub use Rattle.integers.proofs.Kit.{refl, ◌≤◌, ◌<◌, ◌+◌, ◌*◌, arith, mul-le-mul, rules, le-leb, lt-leb}
pub use Rattle.integers.proofs.Lists.{cell_below}
pub use Rattle.integers.proofs.Words.{back}
pub use Rattle.tables.proofs.Fitting.{cell-stored, row-stored}
pub use Rattle.tables.specs.Limits.{max_states}
