-- What more than one proof of this crate names.
pub use Rattle.integers.proofs.Kit.{◌≡◌, ◌∙◌, refl, ap, sym, ◌≤◌, ◌<◌, ◌-◌, arith, rules, lit<, get_or, pos, w64, to_z, of_z, to_z-of_z}
pub use Rattle.integers.proofs.Lists.{padded-none, padded-turn}
pub use Rattle.integers.proofs.Sums.{sum-none}
pub use Rattle.integers.proofs.Terms.{Terms, term-added, term_fits}
pub use Rattle.integers.proofs.Words.{answer, back}
pub use Rattle.integers.specs.Cells.{padded}
pub use Rattle.integers.specs.Whole.{◌·◌, sum_to}
pub use Rattle.tables.proofs.Fitting.{rows-stored}
pub use Rattle.tables.specs.Limits.{max_states, one}
pub use Rattle.tables.specs.Storage.{reward_in, transition_in}
unfoldable pub use Rattle.tables.specs.Limits.{K}
unfoldable pub use Rattle.sums.specs.Steps.{foreseen_in, onward_in}
