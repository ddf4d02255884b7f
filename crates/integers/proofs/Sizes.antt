-- How large whole numbers are: bounds on either side that rule out overflow. Assumes nothing.
--
-- In order: sums, differences, multiples and weighed sums; between - r and r, as tests and as inequalities; with a factor in front.
use Rattle.integers.proofs.Kit.{◌≡◌, refl, ap, sym, true, false, ℕ, ◌≤◌, ◌<◌, ◌+◌, ◌*◌, suc, zero, arith, le-leb, lt-leb, leb, ℤ, pos, nat_abs}
use Rattle.integers.proofs.Kit.{◌+ℤ◌, negsuc, ◌-ℤ◌, neg_ℤ, ◌≤ℤ◌, lt_z, le_z}
use native.Mathlib.Nat as NatL
use Rattle.integers.specs.Whole.{◌·◌, sum_to, total_to}
use Rattle.integers.proofs.Order.{≤-of, ≤_trans, ·-neg}
use Rattle.integers.proofs.Parts.{up, dn, add_parts, neg-parts, times-parts, abs-parts, le-by, le_parts, lt_z-true, lt_z-false}

pub abs-add : (a b : ℤ) → nat_abs (a +ℤ b) ≤ nat_abs a + nat_abs b
abs-add a b = by_sign (a +ℤ b) (omega (arith, add_parts a b, abs-parts a, abs-parts b)) (omega (arith, add_parts a b, abs-parts a, abs-parts b))
  where
    by_sign : (z : ℤ) → up z ≤ nat_abs a + nat_abs b + dn z → dn z ≤ nat_abs a + nat_abs b + up z → nat_abs z ≤ nat_abs a + nat_abs b
    by_sign (pos n) h k = omega arith
    by_sign (negsuc n) h k = omega arith

pub abs-sub : (a b : ℤ) → nat_abs (a -ℤ b) ≤ nat_abs a + nat_abs b
abs-sub a b = omega (arith, abs-add a (neg_ℤ b), abs-parts b, abs-parts (neg_ℤ b), neg-parts b)

pub abs-times : (k : ℕ) (a : ℤ) → nat_abs (k · a) ≡ k * nat_abs a
abs-times k a = omega (arith, abs-parts (k · a), times-parts k a, ap (λ (x : ℕ). k * x) (abs-parts a))

pub times-bound : {W E : ℕ} (k : ℕ) (a : ℤ) → k ≤ W → nat_abs a ≤ E → nat_abs (k · a) ≤ W * E
times-bound k a h g = omega (arith, abs-times k a, NatL.mul-le-mul h g)

pub sum_bound : (n B : ℕ) (f : ℕ → ℤ) → ((i : ℕ) → i < n → nat_abs (f i) ≤ B) → nat_abs (sum_to n f) ≤ n * B
unfolding sum_to
sum_bound zero B f h = omega arith
sum_bound (suc n) B f h = omega (arith, abs-add (sum_to n f) (f n), sum_bound n B f (λ i l. h i (omega arith)), h n (omega arith))

-- a weighted sum: the total of the weights bounds it
pub sum-weighed : (n r : ℕ) (g : ℕ → ℕ) (f : ℕ → ℤ) → ((i : ℕ) → i < n → nat_abs (f i) ≤ g i * r) → nat_abs (sum_to n f) ≤ total_to n g * r
unfolding sum_to total_to
sum-weighed zero r g f h = omega arith
sum-weighed (suc n) r g f h = omega (arith, abs-add (sum_to n f) (f n), sum-weighed n r g f (λ i l. h i (omega arith)), h n (omega arith))

-- ---- between - r and r, as two tests and as two inequalities
pub abs-under : (r : ℕ) (z : ℤ) → lt_z z (neg_ℤ (pos r)) ≡ true → leb (nat_abs z) r ≡ false
abs-under r z t = lt-leb (nat_abs z) r (omega (arith, lt_z-true z (neg_ℤ (pos r)) t, neg-parts (pos r), abs-parts z))

pub abs-test : (r : ℕ) (z : ℤ) → lt_z z (neg_ℤ (pos r)) ≡ false → le_z z (pos r) ≡ leb (nat_abs z) r
abs-test r (pos n) t = refl
abs-test r (negsuc n) t = sym (le-leb (suc n) r (omega (arith, lt_z-false (negsuc n) (neg_ℤ (pos r)) t, neg-parts (pos r))))

pub abs-below : (r : ℕ) (z : ℤ) → nat_abs z ≤ r → z ≤ℤ pos r
abs-below r z h = le-by z (pos r) (omega (arith, abs-parts z))

pub abs-above : (r : ℕ) (z : ℤ) → nat_abs z ≤ r → neg_ℤ (pos r) ≤ℤ z
abs-above r z h = le-by (neg_ℤ (pos r)) z (omega (arith, abs-parts z, neg-parts (pos r)))

pub abs-between : (r : ℕ) (z : ℤ) → z ≤ℤ pos r → neg_ℤ (pos r) ≤ℤ z → nat_abs z ≤ r
abs-between r z h k = by_sign z (omega (arith, le_parts h)) (omega (arith, le_parts k, neg-parts (pos r)))
  where
    by_sign : (z : ℤ) → up z ≤ r + dn z → dn z ≤ r + up z → nat_abs z ≤ r
    by_sign (pos n) h k = omega arith
    by_sign (negsuc n) h k = omega arith

-- the same with a factor in front
pub multiple-below : (k r : ℕ) (z : ℤ) → nat_abs z ≤ k * r → z ≤ℤ k · pos r
multiple-below k r z h = le-by z (k · pos r) (omega (arith, abs-parts z, times-parts k (pos r)))

pub multiple-above : (k r : ℕ) (z : ℤ) → nat_abs z ≤ k * r → k · neg_ℤ (pos r) ≤ℤ z
multiple-above k r z h = rw ·-neg (le-by (neg_ℤ (k · pos r)) z (omega (arith, abs-parts z, times-parts k (pos r), neg-parts (k · pos r))))

pub multiple-between : (k r : ℕ) (z : ℤ) → z ≤ℤ k · pos r → k · neg_ℤ (pos r) ≤ℤ z → nat_abs z ≤ k * r
unfolding ◌·◌
multiple-between k r z h l = abs-between (k * r) z h (≤_trans (≤-of (sym (·-neg k (pos r)))) l)
