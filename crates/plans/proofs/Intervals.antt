-- Weights known within ranges: at every mixture inside, the totals of a certified level bracket what plans earn. Assumes nothing.
--
--   between                                  the bracket
--   lower-within-agree, upper-within-agree   totals read only parts that agree
use Rattle.integers.proofs.Kit.{◌≡◌, ◌∙◌, refl, ap, true, ℕ, ◌≤◌, ◌<◌, suc, ◌^◌, arith, mul-le-mul_right, ℤ, pos, negsuc, ◌≤ℤ◌}
use Rattle.integers.specs.Whole.{◌·◌}
use Rattle.integers.specs.Search.{first_largest_of}
use Rattle.integers.proofs.Parts.{times-parts, le-by}
use Rattle.integers.proofs.Order.{≤_trans, ·-swap, ·-mono}
use Rattle.integers.proofs.Sums.{sum-cong, sum_mono, ≤-·-sum}
use Rattle.integers.proofs.Searches.{of-in, of_some, of-cong}
use Rattle.tables.specs.Limits.{K}
use Rattle.tables.specs.Model.{Model}
use Rattle.plans.specs.Plan.{Plan, Fits, earns_at}
use Rattle.plans.specs.Level.{Level, counts, product, Agree}
use Rattle.plans.specs.Totals.{some_counts}
use Rattle.plans.specs.Intervals.{least_of, most_of, least_product, most_product, surest, lower_within, upper_within, Inside, Between}
use Rattle.plans.proofs.Certified.{Certified}
use Rattle.plans.proofs.Floor.{floor}
use Rattle.plans.proofs.Agreement.{counts-covers, counts-agree}

-- ---- one entry
-- a larger weight makes more of an entry of 0 or more
above-mono : {k k' : ℕ} (e : ℕ) → k ≤ k' → (k · pos e) ≤ℤ (k' · pos e)
above-mono {k} {k'} e l = le-by _ _ (omega (arith, times-parts k (pos e), times-parts k' (pos e), mul-le-mul_right e l))

-- and less of one below 0
below-mono : {k k' : ℕ} (e : ℕ) → k ≤ k' → (k' · negsuc e) ≤ℤ (k · negsuc e)
below-mono {k} {k'} e l = le-by _ _ (omega (arith, times-parts k (negsuc e), times-parts k' (negsuc e), mul-le-mul_right (suc e) l))

module _ {low high b : ℕ} (l : low ≤ b) (h : b ≤ high) where
  least-below : (e : ℤ) → least_of low high e ≤ℤ (b · e)
  unfolding least_of
  least-below (pos e) = above-mono e l
  least-below (negsuc e) = below-mono e h

  most-above : (e : ℤ) → (b · e) ≤ℤ most_of low high e
  unfolding most_of
  most-above (pos e) = above-mono e h
  most-above (negsuc e) = below-mono e l

-- the most is the least with low and high exchanged
most-of : (low high : ℕ) (e : ℤ) → most_of low high e ≡ least_of high low e
unfolding most_of least_of
most-of low high (pos e) = refl
most-of low high (negsuc e) = refl

-- ---- products
pub most-least : (n : ℕ) (low high : ℕ → ℕ) (e : ℕ → ℤ) → most_product n low high e ≡ least_product n high low e
unfolding most_product least_product
most-least n low high e = sum-cong n _ _ (λ s l. most-of (low s) (high s) (e s))

pub least-cong : (n : ℕ) (low high low' high' : ℕ → ℕ) (e e' : ℕ → ℤ) → ((s : ℕ) → s < n → low s ≡ low' s) → ((s : ℕ) → s < n → high s ≡ high' s)
    → ((s : ℕ) → s < n → e s ≡ e' s) → least_product n low high e ≡ least_product n low' high' e'
unfolding least_product
least-cong n low high low' high' e e' lows highs entries = sum-cong n _ _ (λ s l. rw (lows s l, highs s l, entries s l))

module _ (n : ℕ) (low high b : ℕ → ℕ) (inside : Inside n low high b) where
  least-product-below : (e : ℕ → ℤ) → least_product n low high e ≤ℤ product n b e
  unfolding least_product product
  least-product-below e = sum_mono n _ _ (λ s l. least-below (inside s l).0 (inside s l).1 (e s))

  most-product-above : (e : ℕ → ℤ) → product n b e ≤ℤ most_product n low high e
  unfolding most_product product
  most-product-above e = sum_mono n _ _ (λ s l. most-above (inside s l).0 (inside s l).1 (e s))

-- ---- the bracket
surest-exists : (M : Model) (L : Level) (low high : ℕ → ℕ) → 0 < L.vectors → surest M L low high < L.vectors
unfolding surest
surest-exists M L low high some = of-in _ _ _ some

surest-counts : (M : Model) (L : Level) (low high : ℕ → ℕ) → some_counts M L high ≡ true → counts M.states L high (surest M L low high) ≡ true
unfolding surest
surest-counts M L low high h = of_some _ _ _ h

-- no plan earns more than the corners say
corner-roof : {M : Model} {t : ℕ} {L : Level} → Certified M t L → (π : Plan t) → Fits M π → (b : ℕ → ℕ)
    → earns_at M π b ≤ℤ (K ^ t) · product M.states b L.corner
unfolding earns_at product
corner-roof c π f b = ≤-·-sum _ _ _ _ (λ s l. rw ·-swap (·-mono (b s) (c.corner s l π f)))

-- At every mixture inside the ranges some plan earns at least the lower total, and none earns more than the upper.
-- The surest vector covers every state with a high above 0, so each state with weight in b, since no weight passes its high: its plan earns at least the
-- product at b (`floor`). Term by term low × e ≤ b × e where e is 0 or more and high × e ≤ b × e otherwise, so the least product is at most that. What a plan
-- earns is at most corners · b, state by state, and term by term that is at most the most product of the corners. All of it times K^t. Qed.
pub between : {M : Model} {t : ℕ} {L : Level} → Certified M t L → 0 < L.vectors → (low high b : ℕ → ℕ) → some_counts M L high ≡ true
    → Inside M.states low high b → Between M t L low high b
unfolding lower_within upper_within
between {M} {t} {L} c some low high b counted inside =
    let v = surest M L low high in
    let e = c.vector v (surest-exists M L low high some) in
    let covers = counts-covers M.states L high v (surest-counts M L low high counted) in
    record {
      plan = e.plan;
      fits = e.fits;
      floor = ≤_trans (·-mono (K ^ t) (least-product-below M.states low high b inside (L.entry v)))
          (floor e b (λ s l above. covers s l (omega (arith, above, (inside s l).1))));
      roof = λ π f. ≤_trans (corner-roof c π f b) (·-mono (K ^ t) (most-product-above M.states low high b inside L.corner));
    }

-- ---- levels that agree
module _ (M : Model) (W W' : Level) (e : Agree M W W') (low high : ℕ → ℕ) where
  entries-same : (v : ℕ) → v < W.vectors → least_product M.states low high (W'.entry v) ≡ least_product M.states low high (W.entry v)
  entries-same v l = least-cong M.states low high low high _ _ (λ s k. refl) (λ s k. refl) (e.entry_same v l)

  surest-agree : 0 < W.vectors → surest M W' low high ≡ surest M W low high
  unfolding surest
  surest-agree some =
      ap (λ (k : ℕ). first_largest_of k (counts M.states W' high) (λ v. least_product M.states low high (W'.entry v))) e.vectors_same
      ∙ of-cong W.vectors _ _ _ _ some (counts-agree M W W' e high) (λ v l c. entries-same v l)

  pub lower-within-agree : 0 < W.vectors → lower_within M W' low high ≡ lower_within M W low high
  unfolding lower_within
  lower-within-agree some = rw (surest-agree some) (entries-same (surest M W low high) (surest-exists M W low high some))

  pub upper-within-agree : upper_within M W' low high ≡ upper_within M W low high
  unfolding upper_within most_product
  upper-within-agree = sum-cong M.states _ _ (λ s l. ap (λ (c : ℤ). most_of (low s) (high s) c) (e.corner_same s l))
