-- What more than one proof of this crate names.
pub use Rattle.integers.proofs.Kit.{◌≡◌, ◌∙◌, refl, ap, sym, ℕ, ◌≤◌, ◌<◌, ◌*◌, ◌-◌, ◌/◌, ◌%◌, arith, rules, pos, w64, to_z, of_z}
pub use Rattle.integers.proofs.Words.{answer}
