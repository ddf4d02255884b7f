-- What more than one proof of this crate names.
pub use Rattle.integers.proofs.Kit.{◌≡◌, ◌∙◌, ap, sym, ℕ, ◌≤◌, ◌*◌, ◌-◌, arith, rules, lit<, w64, to_z, of_z}
pub use Rattle.integers.specs.Whole.{◌·◌, sum_to}
pub use Rattle.integers.proofs.Sums.{sum-none}
pub use Rattle.integers.proofs.Terms.{Terms, term-added, term_fits}
pub use Rattle.integers.proofs.Words.{answer}
pub use Rattle.tables.specs.Limits.{one}
