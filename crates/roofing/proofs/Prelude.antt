-- What more than one proof of this crate names.
pub use Rattle.integers.proofs.Kit.{◌≡◌, refl, sym, ◌≤◌, ◌<◌, ◌-◌, arith, rules, pos, length}
pub use Rattle.roofing.proofs.Least.{least-said}
pub use Rattle.backups.specs.Steps.{CeilingOf}
pub use Rattle.integers.proofs.Lists.{laid_none, laid-turn}
pub use Rattle.integers.specs.Cells.{laid}
pub use Rattle.plans.specs.Level.{Level}
pub use Rattle.sawtooth.specs.Steps.{ceiling_in}
pub use Rattle.tables.specs.Storage.{model_in}
unfoldable pub use Rattle.plans.specs.Build.{least_value}
