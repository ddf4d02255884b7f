-- The machine's quotient drops towards 0; corrected by the remainder's sign it is the quotient rounded up, and the Euclidean one is rounded down.
-- Assumes nothing.
--
-- In order: rounded up, by the sign of the remainder; how large it is; rounded down; of the machine's words.
use Rattle.integers.proofs.Kit.{◌≡◌, ◌∙◌, refl, ap, sym, true, false, ℕ, ◌≤◌, ◌<◌, ◌+◌, ◌*◌, suc, zero, ◌^◌, ◌/◌, ◌%◌, arith, ℤ, pos, ◌+ℤ◌}
use Rattle.integers.proofs.Kit.{negsuc, neg_ℤ, lt_z, mag, w64, to_z, of_z, SFits, to_z-of_z, to_z_pos}
use native.Mathlib.Nat as NatL
use lib.Signed.{mag_rem, quot_z, rem_z}
use mir.ValLaws.{sfits_le}
use Rattle.std.specs.Int.{int_div_euclid}
use Rattle.integers.specs.Whole.{floor_div, ceil_div}
use Rattle.integers.proofs.Parts.{add_parts, neg-parts, eq-by, lt_z-true, lt_z-false}

module _ (k : ℕ) (p : 0 < k) where
  -- the quotient of the next number: the same, or one more where nothing remains
  next-same : (a : ℕ) → 0 < suc a % k → suc a / k ≡ a / k
  next-same a h =
      let e = NatL.div-add-mod' (suc a) k in
      sym (NatL.div-eq_of_lt-le k (omega arith) (omega (arith, NatL.mod-lt (suc a) p)))

  next_more : (a : ℕ) → suc a % k ≡ 0 → suc a / k ≡ suc (a / k)
  next_more a h = by (suc a / k) refl (NatL.div-add-mod' (suc a) k)
    where
      by : (q : ℕ) → suc a / k ≡ q → suc a / k * k + suc a % k ≡ suc a → suc a / k ≡ suc (a / k)
      by zero e d = absurd (let d' : zero * k + suc a % k ≡ suc a = rw e at d in omega arith)
      by (suc q) e d =
          let d' : suc q * k + suc a % k ≡ suc a = rw e at d in
          e ∙ ap suc (sym (NatL.div-eq_of_lt-le k (omega arith) (omega arith)))

  pub ceil-more : (x : ℤ) → lt_z (pos 0) (rem_z x (pos k)) ≡ true → quot_z x (pos k) +ℤ pos 1 ≡ ceil_div x k
  unfolding floor_div ceil_div
  ceil-more (pos zero) t = absurd (let l = lt_z-true (pos 0) (pos (0 % k)) t in let n : ⊥ = omega (arith, NatL.zero-mod k) in n)
  ceil-more (pos (suc a)) t =
      let l = lt_z-true (pos 0) (pos (suc a % k)) t in
      let h : 0 < suc a % k = omega arith in
      eq-by _ _ (omega (arith, add_parts (pos (suc a / k)) (pos 1), neg-parts (negsuc (a / k)), next-same a h))
  ceil-more (negsuc a) t =
      absurd (let l = lt_z-true (pos 0) (neg_ℤ (pos (suc a % k))) t in let n : ⊥ = omega (arith, neg-parts (pos (suc a % k))) in n)

  pub ceil-same : (x : ℤ) → lt_z (pos 0) (rem_z x (pos k)) ≡ false → quot_z x (pos k) ≡ ceil_div x k
  unfolding floor_div ceil_div
  ceil-same (pos zero) t = rw (NatL.zero-div k) refl
  ceil-same (pos (suc a)) t =
      let l = lt_z-false (pos 0) (pos (suc a % k)) t in
      let h : suc a % k ≡ 0 = omega arith in
      eq-by _ _ (omega (arith, neg-parts (negsuc (a / k)), next_more a h))
  ceil-same (negsuc a) t = refl

  -- ---- they fit
  pub quotient-small : (x : ℤ) → mag (quot_z x (pos k)) ≤ mag x
  quotient-small (pos a) = NatL.div-le_self a k
  quotient-small (negsuc a) = mag-neg (suc a / k) (NatL.div-le_self (suc a) k)
    where
      mag-neg : (q : ℕ) → q ≤ suc a → mag (neg_ℤ (pos q)) ≤ a
      mag-neg zero h = omega arith
      mag-neg (suc q) h = omega arith

  pub floor-small : (x : ℤ) → mag (floor_div x k) ≤ mag x
  unfolding floor_div
  floor-small (pos a) = NatL.div-le_self a k
  floor-small (negsuc a) = NatL.div-le_self a k

  pub ceil-small : (x : ℤ) → mag (ceil_div x k) ≤ mag x
  unfolding floor_div ceil_div
  ceil-small (pos zero) = rw (NatL.zero-div k) (omega arith)
  ceil-small (pos (suc a)) = omega (arith, NatL.div-le_self a k)
  ceil-small (negsuc a) = quotient-small (negsuc a)

-- by a divisor above 0, the quotient that leaves no rest below 0
euclid-floor : (x : ℤ) (k : ℕ) → int_div_euclid x (pos k) ≡ floor_div x k
unfolding floor_div
euclid-floor (pos a) k = refl
euclid-floor (negsuc a) k = refl

-- ---- from the machine's words
module _ (x : ℤ) (k : ℕ) (fit : SFits w64 x) (p : 0 < k) (small : k < 2 ^ 63) where
  machine : {A : Type 0} (f : ℤ → ℤ → A) → f (to_z w64 (of_z w64 x)) (to_z w64 k) ≡ f x (pos k)
  machine f = rw (to_z-of_z fit, to_z_pos w64 {n = k} small)

  pub quotient_fits : SFits w64 (quot_z (to_z w64 (of_z w64 x)) (to_z w64 k))
  quotient_fits = rw (machine quot_z) (sfits_le (quotient-small k p x) fit)

  pub quotient : to_z w64 (of_z w64 (quot_z (to_z w64 (of_z w64 x)) (to_z w64 k))) ≡ quot_z x (pos k)
  quotient = to_z-of_z quotient_fits ∙ machine quot_z

  pub remainder : to_z w64 (of_z w64 (rem_z (to_z w64 (of_z w64 x)) (to_z w64 k))) ≡ rem_z x (pos k)
  remainder = rw (machine rem_z) (to_z-of_z (sfits_le (mag_rem x (pos k)) fit))

  pub euclid : int_div_euclid (to_z w64 (of_z w64 x)) (to_z w64 k) ≡ floor_div x k
  euclid = machine int_div_euclid ∙ euclid-floor x k
