-- Laws of least products: as the code adds them up, and that only entries with a high above 0 matter. Assumes nothing.
use Rattle.integers.proofs.Kit.{◌≡◌, ◌∙◌, refl, ap, sym, true, false, ℕ, ◌≤◌, ◌<◌, suc, zero, arith, lt_z, ℤ, pos, negsuc}
use Rattle.integers.specs.Whole.{◌·◌, sum_to}
use Rattle.integers.proofs.Order.{zero-·}
use Rattle.integers.proofs.Parts.{lt_z-true, lt_z-false}
use Rattle.integers.proofs.Sums.{sum-cong}
use Rattle.plans.specs.Intervals.{least_of, least_product}
use Rattle.intervals.specs.Steps.{weight_for}

-- ---- the weight that an entry takes
module _ (over under : ℕ) where
  pub weight-under : (e : ℤ) → lt_z e (pos 0) ≡ true → under ≡ weight_for over under e
  unfolding weight_for
  weight-under (pos e) h = absurd (let l = lt_z-true (pos e) (pos 0) h in let no : ⊥ = omega arith in no)
  weight-under (negsuc e) h = refl

  pub weight-over : (e : ℤ) → lt_z e (pos 0) ≡ false → over ≡ weight_for over under e
  unfolding weight_for
  weight-over (pos e) h = refl
  weight-over (negsuc e) h = absurd (let l = lt_z-false (negsuc e) (pos 0) h in let no : ⊥ = omega arith in no)

  -- it is one of the two
  pub weight-by : (P : ℕ → Type 0) → P over → P under → (e : ℤ) → P (weight_for over under e)
  unfolding weight_for
  weight-by P h k (pos e) = h
  weight-by P h k (negsuc e) = k

  least-is : (e : ℤ) → least_of over under e ≡ weight_for over under e · e
  unfolding least_of weight_for
  least-is (pos e) = refl
  least-is (negsuc e) = refl

-- ---- least products
pub least-sum : (n : ℕ) (over under : ℕ → ℕ) (e : ℕ → ℤ) → least_product n over under e ≡ sum_to n (λ s. weight_for (over s) (under s) (e s) · e s)
unfolding least_product
least-sum n over under e = sum-cong n _ _ (λ s l. least-is (over s) (under s) (e s))

-- only entries with a high above 0 matter
least-none : (low : ℕ) (e : ℤ) → low ≤ 0 → least_of low 0 e ≡ pos 0
unfolding least_of
least-none low (pos e) l = let none : low ≡ 0 = omega arith in rw none (zero-· (pos e))
least-none low (negsuc e) l = zero-· (negsuc e)

least-alike : (low high : ℕ) (e f : ℤ) → low ≤ high → (0 < high → e ≡ f) → least_of low high e ≡ least_of low high f
least-alike low zero e f l h = least-none low e l ∙ sym (least-none low f l)
least-alike low (suc high) e f l h = ap (least_of low (suc high)) (h (omega arith))

pub least-where : (n : ℕ) (low high : ℕ → ℕ) (e f : ℕ → ℤ) → ((s : ℕ) → s < n → low s ≤ high s) → ((s : ℕ) → s < n → 0 < high s → e s ≡ f s)
    → least_product n low high e ≡ least_product n low high f
unfolding least_product
least-where n low high e f ordered h = sum-cong n _ _ (λ s l. least-alike (low s) (high s) (e s) (f s) (ordered s l) (h s l))
