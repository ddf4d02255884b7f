-- What more than one proof of this crate names.
pub use Rattle.integers.proofs.Kit.{◌≡◌, ◌∙◌, refl, sym, true, List, ℕ, ◌≤◌, ◌-◌, arith, rules, lt-ltb, le-ltb, ltb, length, get_or}
pub use Rattle.levels.proofs.Laws.{failed, passed}
pub use Rattle.tables.proofs.Fitting.{rows-stored}
pub use Rattle.refusals.proofs.Refusals.{first-here, first_more, first-none}
pub use Rattle.refusals.specs.Verdicts.{first_of, unless, Verdict, Fine}
