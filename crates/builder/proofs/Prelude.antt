-- What more than one proof of this crate names.
pub use Rattle.integers.proofs.Kit.{◌-◌, arith}
pub use Rattle.backups.proofs.Roofs.{corner-at, point_at}
pub use Rattle.levels.specs.Storage.{point_in}
pub use Rattle.tables.specs.Storage.{model_in}
