-- What more than one proof of this crate names.
pub use Rattle.integers.proofs.Kit.{◌≡◌, ◌∙◌, refl, sym, ◌≤◌, ◌*◌, ◌-◌, arith, mul-le-mul, rules, lit<, w64, to_z}
pub use Rattle.integers.proofs.Lists.{padded-none, padded-turn}
pub use Rattle.integers.proofs.Sums.{sum-none, total-none, total-step}
pub use Rattle.integers.proofs.Terms.{Terms, term-added, term_fits}
pub use Rattle.integers.proofs.Words.{answer}
pub use Rattle.integers.specs.Cells.{padded}
pub use Rattle.integers.specs.Whole.{◌·◌, sum_to, total_to}
pub use Rattle.tables.specs.Limits.{max_states, max_weight, one}
pub use Rattle.tables.specs.Storage.{reward_in, transition_in, weight_in}
unfoldable pub use Rattle.sums.specs.Steps.{moved_in}
