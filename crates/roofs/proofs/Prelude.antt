-- What more than one proof of this crate names.
pub use Rattle.integers.proofs.Kit.{◌≡◌, ◌∙◌, refl, sym, List, ℕ, ◌≤◌, ◌<◌, ◌-◌, arith, rules, ◌^◌, mag, get_or, ℤ, pos, w64, to_z, of_z, to_z-of_z}
pub use Rattle.roofs.proofs.Covering.{covers-said}
pub use Rattle.integers.proofs.Words.{answer, back}
pub use Rattle.integers.specs.Whole.{◌·◌}
pub use Rattle.levels.proofs.Laws.{failed, passed}
pub use Rattle.levels.specs.Judged.{covers_backups}
pub use Rattle.plans.specs.Level.{Level}
pub use Rattle.sawtooth.specs.Steps.{ceiling_in}
pub use Rattle.backups.specs.Steps.{CeilingOf}
pub use Rattle.refusals.proofs.Refusals.{first-here, first_more, first-none}
pub use Rattle.tables.specs.Limits.{max_states}
pub use Rattle.tables.specs.Storage.{model_in}
pub use Rattle.refusals.specs.Verdicts.{first_of, unless, Verdict, Fine}
pub use Rattle.tables.specs.declared.Counts.{Counts}
unfoldable pub use Rattle.tables.specs.Limits.{K}
