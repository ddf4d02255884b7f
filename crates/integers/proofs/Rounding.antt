-- Division rounded towards minus and plus infinity: what characterizes it, and that it keeps a range whose ends are whole. Assumes nothing.
use Rattle.integers.proofs.Kit.{ℕ, ◌≤◌, ◌<◌, ◌*◌, suc, ◌/◌, arith, ℤ, pos, nat_abs, negsuc, neg_ℤ, ◌≤ℤ◌}
use native.Mathlib.Nat as NatL
use lib.IntN.{neg_ℤ-neg_ℤ}
use Rattle.integers.specs.Whole.{◌·◌, floor_div, ceil_div}
use Rattle.integers.proofs.Parts.{times-parts, le-by, le_parts}
use Rattle.integers.proofs.Order.{≤_trans, neg-mono, ·-neg, ·-cancel}
use Rattle.integers.proofs.Sizes.{abs-between, multiple-below, multiple-above}

module _ (k : ℕ) (p : 0 < k) where
  -- the quotient is not too large, and no larger whole number will do
  pub floor-≤ : (z : ℤ) → k · floor_div z k ≤ℤ z
  unfolding floor_div
  floor-≤ (pos a) = le-by _ _ (omega (arith, times-parts k (pos (a / k)), NatL.mul-div-le a k))
  floor-≤ (negsuc a) = le-by _ _ (omega (arith, times-parts k (negsuc (a / k)), NatL.lt-mul-div-succ a p))

  pub floor-most : (z r : ℤ) → k · r ≤ℤ z → r ≤ℤ floor_div z k
  unfolding floor_div
  floor-most (pos a) (pos r) l =
      let e : r * k ≤ a = omega (arith, times-parts k (pos r), le_parts l) in
      le-by _ _ (omega (arith, (NatL.le-div_iff_mul-le p).1 e))
  floor-most (pos a) (negsuc r) l = le-by _ _ (omega arith)
  floor-most (negsuc a) (pos r) l = absurd (omega (arith, times-parts k (pos r), le_parts l))
  floor-most (negsuc a) (negsuc r) l =
      let e : a < suc r * k = omega (arith, times-parts k (negsuc r), le_parts l) in
      le-by _ _ (omega (arith, (NatL.div-lt_iff_lt-mul p).1 e))

  pub ceil-≥ : (z : ℤ) → z ≤ℤ k · ceil_div z k
  unfolding ceil_div
  ceil-≥ z = rw ·-neg (rw neg_ℤ-neg_ℤ at (neg-mono (floor-≤ (neg_ℤ z))))

  pub ceil-least : (z r : ℤ) → z ≤ℤ k · r → ceil_div z k ≤ℤ r
  unfolding ceil_div
  ceil-least z r l = rw neg_ℤ-neg_ℤ at (neg-mono (floor-most (neg_ℤ z) (neg_ℤ r) (rw ·-neg (neg-mono l))))

  -- ---- ranges
  pub floor-range : (r : ℕ) (z : ℤ) → nat_abs z ≤ k * r → nat_abs (floor_div z k) ≤ r
  floor-range r z h =
      abs-between r (floor_div z k) (·-cancel k p (≤_trans (floor-≤ z) (multiple-below k r z h)))
      (floor-most z (neg_ℤ (pos r)) (multiple-above k r z h))

  pub ceil-range : (r : ℕ) (z : ℤ) → nat_abs z ≤ k * r → nat_abs (ceil_div z k) ≤ r
  ceil-range r z h =
      abs-between r (ceil_div z k) (ceil-least z (pos r) (multiple-below k r z h))
      (·-cancel k p (≤_trans (multiple-above k r z h) (ceil-≥ z)))
