-- What more than one proof of this crate names.
pub use Rattle.integers.proofs.Kit.{◌≡◌, ◌∙◌, refl, ap, sym, subst, subst⁻¹, List, [], ◌∷◌, ℕ, ◌≤◌, ◌<◌, ◌+◌, ◌-◌, ◌/◌, ◌%◌, ◌^◌, arith, rules, length}
pub use mathlib.Core.List.{◌++◌}
pub use Rattle.digits.proofs.Over.{room-first, room-then, wrote_then}
pub use Rattle.digits.specs.Steps.{HasRoom, Wrote}
unfoldable pub use Rattle.digits.specs.Digits.{last_digits, whole, fixed, signed_fixed, line, opening}
