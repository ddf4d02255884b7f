-- What more than one proof of this crate names.
pub use Rattle.integers.proofs.Kit.{◌≡◌, ◌∙◌, sym, ◌≤◌, ◌*◌, arith, get_or, pos, w64, to_z, of_z}
pub use Rattle.integers.proofs.Lists.{padded-none, padded-turn}
pub use Rattle.integers.proofs.Words.{answer}
pub use Rattle.integers.specs.Cells.{padded}
pub use Rattle.levels.specs.Storage.{corner_in}
pub use Rattle.plans.specs.Level.{product}
pub use Rattle.plans.specs.Limits.{max_points, max_reached}
pub use Rattle.sawtooth.proofs.Laws.{first-cells}
pub use Rattle.tables.specs.Storage.{weight_in}
