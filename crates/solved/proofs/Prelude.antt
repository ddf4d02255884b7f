-- What more than one proof of this crate names.
pub use Rattle.integers.proofs.Kit.{◌≡◌, ◌∙◌, ap, sym, ◌≤◌, ◌-◌, arith, rules, get_or, pos}
pub use Rattle.integers.proofs.Lists.{padded-cong, padded-length}
pub use Rattle.refusals.specs.Verdicts.{Verdict}
pub use Rattle.tables.specs.Limits.{max_states}
