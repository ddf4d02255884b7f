-- Products where only what has a weight above 0 matters. Assumes nothing.
--
--   product-where     products are the same where the entries with a weight above 0 are
--   product-masked    so that with a vector is, masked or not, where it covers each state with a weight above 0
--   weighed-fits      the next term of a sum fits 64 bits, with values within the limit where the weight is above 0
use Rattle.integers.proofs.Kit.{◌≡◌, ◌∙◌, refl, ap, sym, true, false, Bool, cond, List, ℕ, ◌≤◌, ◌<◌, ◌+◌, ◌*◌, suc, zero, ◌^◌, arith, ℤ, pos, nat_abs}
use Rattle.integers.proofs.Kit.{ltb, lt-ltb, ltb-true}
use Rattle.integers.specs.Whole.{◌·◌, sum_to}
use Rattle.integers.proofs.Order.{zero-·}
use Rattle.integers.proofs.Sizes.{abs-times}
use Rattle.integers.proofs.Sums.{sum-cong}
use Rattle.integers.proofs.Terms.{Terms, term_fits}
use Rattle.tables.specs.Storage.{entry_in}
use Rattle.masks.specs.Masks.{covered_in, masked_in}
use Rattle.plans.specs.Level.{product}

·-where : (k : ℕ) {a b : ℤ} → (0 < k → a ≡ b) → k · a ≡ k · b
·-where zero {a} {b} h = zero-· a ∙ sym (zero-· b)
·-where (suc k) h = ap (λ (z : ℤ). suc k · z) (h (omega arith))

pub product-where : (n : ℕ) (q : ℕ → ℕ) (e f : ℕ → ℤ) → ((s : ℕ) → s < n → 0 < q s → e s ≡ f s) → product n q e ≡ product n q f
unfolding product
product-where n q e f h = sum-cong n _ _ (λ s l. ·-where (q s) (h s l))

pub product-masked : (n : ℕ) (q : ℕ → ℕ) (masks : List ℕ) (entries : List ℤ) (v : ℕ)
    → ((s : ℕ) → s < n → 0 < q s → covered_in masks v s ≡ true) → product n q (masked_in n masks entries v) ≡ product n q (entry_in n entries v)
product-masked n q masks entries v h = product-where n q _ _ (λ s l b. rw (h s l b))

-- values, or 0 where the weight is 0
module _ (w : ℕ → ℕ) (z : ℕ → ℤ) where
  weighed : ℕ → ℤ
  weighed i = cond (ltb 0 (w i)) (z i) (pos 0)

  same : (i : ℕ) → w i · weighed i ≡ w i · z i
  unfolding weighed
  same i = ·-where (w i) (λ l. rw (lt-ltb 0 (w i) l))

  small : {E : ℕ} (i : ℕ) → (0 < w i → nat_abs (z i) ≤ E) → nat_abs (weighed i) ≤ E
  unfolding weighed
  small {E} i h = by (ltb 0 (w i)) refl
    where
      by : (b : Bool) → ltb 0 (w i) ≡ b → nat_abs (cond b (z i) (pos 0)) ≤ E
      by true e = h (ltb-true _ _ e)
      by false e = omega arith

  pub weighed-fits : {n W E : ℕ} → ((i : ℕ) → i < n → w i ≤ W) → ((i : ℕ) → i < n → 0 < w i → nat_abs (z i) ≤ E)
      → (i : ℕ) {sum a : ℤ} {k : ℕ} → sum ≡ sum_to i (λ j. w j · z j) → k ≡ w i → a ≡ z i → i < n → W < 2 ^ 63 → n * (W * E) < 2 ^ 63
      → (k < 2 ^ 63) × (nat_abs sum + k * nat_abs a < 2 ^ 63)
  weighed-fits {n} {W} {E} weights values i so_far weight value l fits-weight Fits-sum =
      let t : Terms n W E w weighed = record { weights = weights; values = λ j b. small j (values j b) } in
      let h = term_fits t i (so_far ∙ sum-cong i _ _ (λ j b. sym (same j))) weight refl l fits-weight Fits-sum in
      let e = sym (abs-times (w i) (weighed i)) ∙ ap nat_abs (same i) ∙ abs-times (w i) (z i) in
      (h.0, rw (weight, value, ← e) (rw weight at h.1))
