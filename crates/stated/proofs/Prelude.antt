-- What more than one proof of this crate names.
pub use Rattle.integers.proofs.Kit.{◌≡◌, ◌∙◌, sym, List, ℕ, ◌≤◌, ◌-◌, arith, rules, ltb, get_or}
pub use Rattle.refusals.proofs.Refusals.{first-here, first_more, first-none}
pub use Rattle.refusals.specs.Verdicts.{Fine, Verdict, first_of, unless}
pub use Rattle.tables.specs.Limits.{max_observations}
