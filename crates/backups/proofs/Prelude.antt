-- What more than one proof of this crate names.
pub use Rattle.integers.proofs.Kit.{◌≡◌, ◌∙◌, sym, ◌≤◌, ◌-◌, arith, w64, to_z, of_z}
pub use Rattle.backups.proofs.Roofs.{ahead_at}
pub use Rattle.integers.proofs.Words.{answer}
pub use Rattle.integers.specs.Cells.{padded}
pub use Rattle.integers.specs.Whole.{sum_to}
pub use Rattle.sawtooth.specs.Steps.{ceiling_in}
pub use Rattle.tables.specs.Limits.{max_states}
