-- A product and sums of products: from the machine's words to whole numbers, how large they are, and how a loop makes them. Assumes nothing.
use Rattle.integers.proofs.Kit.{◌≡◌, ◌∙◌, ap, ℕ, ◌≤◌, ◌<◌, ◌+◌, ◌*◌, suc, ◌^◌, arith, mul-le-mul, mul-le-mul_right, ℤ, nat_abs, ◌+ℤ◌, w64, to_z}
use Rattle.integers.proofs.Kit.{of_z, SFits, to_z-of_z, to_z_pos}
use lib.IntN.{◌*ℤ◌}
use Rattle.integers.specs.Whole.{◌·◌, sum_to}
use Rattle.integers.proofs.Sizes.{abs-add, abs-times, times-bound, sum_bound}
use Rattle.integers.proofs.Sums.{sum_step}
use Rattle.integers.proofs.Words.{fits}

module _ (k : ℕ) (a : ℤ) (hk : k < 2 ^ 63) (ha : SFits w64 a) where
  pub product : to_z w64 k *ℤ to_z w64 (of_z w64 a) ≡ k · a
  unfolding ◌·◌
  product = cc (to_z_pos w64 {n = k} hk, to_z-of_z ha)

  pub product-fits : k * nat_abs a < 2 ^ 63 → SFits w64 (k · a)
  product-fits h = fits (k · a) (omega (arith, abs-times k a))

  module _ (sum : ℤ) (hs : SFits w64 sum) (h : nat_abs sum + k * nat_abs a < 2 ^ 63) where
    pub sum_of : to_z w64 (of_z w64 sum) +ℤ to_z w64 (of_z w64 (to_z w64 k *ℤ to_z w64 (of_z w64 a))) ≡ sum +ℤ k · a
    sum_of = cc (ap (of_z w64) product, to_z-of_z hs, to_z-of_z (product-fits (omega arith)))

    pub sum_fits : SFits w64 (sum +ℤ k · a)
    sum_fits = fits (sum +ℤ k · a) (omega (arith, abs-times k a, abs-add sum (k · a)))

-- ---- sums of products, as a loop makes them

-- terms w i × z i, of factors within limits
pub record Terms (n W E : ℕ) (w : ℕ → ℕ) (z : ℕ → ℤ) : Type 0 where
  pub weights : (i : ℕ) → i < n → w i ≤ W
  pub values : (i : ℕ) → i < n → nat_abs (z i) ≤ E

-- the sum of the first terms is as large as their number allows
pub terms-limit : {n W E : ℕ} {w : ℕ → ℕ} {z : ℕ → ℤ} → Terms n W E w z → (i : ℕ) → i ≤ n → nat_abs (sum_to i (λ j. w j · z j)) ≤ i * (W * E)
terms-limit {w} {z} t i l = sum_bound i _ _ (λ j h. times-bound (w j) (z j) (t.weights j (omega arith)) (t.values j (omega arith)))

-- what a loop hands over at a turn: the sum so far and the factors of the next term
module _ {n W E : ℕ} {w : ℕ → ℕ} {z : ℕ → ℤ} (t : Terms n W E w z) (i : ℕ) {sum a : ℤ} {k : ℕ}
    (so_far : sum ≡ sum_to i (λ j. w j · z j)) (weight : k ≡ w i) (value : a ≡ z i) where
  -- the next term fits 64 bits, and so does the sum with it
  pub term_fits : i < n → W < 2 ^ 63 → n * (W * E) < 2 ^ 63 → (k < 2 ^ 63) × (nat_abs sum + k * nat_abs a < 2 ^ 63)
  term_fits l small fits =
      let size = terms-limit t i (omega arith) in
      let term : w i * nat_abs (z i) ≤ W * E = mul-le-mul (t.weights i l) (t.values i l) in
      let more : suc i * (W * E) ≤ n * (W * E) = mul-le-mul_right (W * E) (omega arith) in
      rw (so_far, weight, value) (omega (arith, t.weights i l), omega arith)

  -- with the next term it is the sum of one more
  pub term-added : {r : ℤ} → r ≡ sum +ℤ k · a → r ≡ sum_to (i + 1) (λ j. w j · z j)
  term-added e = e ∙ rw (weight, value) (sum_step i (λ j. w j · z j) so_far)
