-- What more than one proof of this crate names.
pub use Rattle.integers.proofs.Kit.{◌≡◌, ◌∙◌, ap, sym, true, ℕ, arith, rules}
