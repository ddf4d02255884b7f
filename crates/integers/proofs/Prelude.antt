-- What more than one proof of this crate names.
pub use Rattle.integers.proofs.Kit.{◌≡◌, ◌≤◌, ◌-◌, arith, rules, ℤ, pos, ◌+ℤ◌, ◌-ℤ◌, neg_ℤ, w64, to_z, SFits, to_z-of_z}
pub use Rattle.integers.proofs.Parts.{abs-parts, neg-parts}
pub use Rattle.integers.proofs.Quotients.{quotient, quotient_fits, remainder}
pub use Rattle.integers.proofs.Terms.{product, product-fits}
pub use Rattle.integers.proofs.Words.{fits}
pub use lib.Signed.{quot_z}
pub use mir.ValLaws.{sfits_le}
