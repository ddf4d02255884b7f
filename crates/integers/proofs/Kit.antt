-- What proofs name of the prover's library, in every crate.
pub use mathlib.Core.Path.{◌≡◌, ◌∙◌, refl, ap, sym, subst, subst⁻¹}
pub use mathlib.Core.Bool.{true, false, Bool, cond, ◌&&◌, ◌||◌, false≢true, and-eq-true_iff, and_comm, and_assoc, or-true, or-false}
pub use mathlib.Core.List.{List, [], ◌∷◌}
pub use mathlib.Core.Logic.{⊎_elim}
pub use Prim.Native.Nat.{ℕ, ◌≤◌, ◌<◌, ◌+◌, ◌*◌, suc, ◌-◌, zero, ◌^◌, ◌/◌, ◌%◌}
pub use native.Mathlib.Omega.{arith}
pub use native.Mathlib.Nat.{mul-le-mul, mul-le-mul_right, add-zero, zero-add}
pub use native.Mathlib.Numerals.{add-one}
pub use native.Mathlib.Decide.{dec_lt}
pub use borrow.Author.Rules.{rules}
pub use borrow.Author.Tests.{le-leb, leb-true, lt-leb, not-false, not-true, ne_eqb, eq-eqb, lt-ltb, eqb-true, le-ltb, ltb-true}
pub use lib.Dec.{leb, eqb, ltb, lit<, T}
pub use lib.ListN.{length, get_or, drop, replicate, set, length-replicate, take}
pub use lib.Seq.{paste, drop-drop}
pub use lib.IntN.{ℤ, pos, nat_abs, ◌+ℤ◌, negsuc, ◌-ℤ◌, neg_ℤ}
pub use lib.Signed.{◌≤ℤ◌, lt_z, le_z, ◌<ℤ◌, mag}
pub use mir.Syntax.{w64}
pub use mir.Val.{to_z, of_z, SFits}
pub use mir.Facts.{to_z-of_z, to_z_pos}
