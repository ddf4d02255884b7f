-- Multiples and sums of mixtures: a bake of twice the weights. Assumes nothing.
--
--   lower-times   the lower total at c times the weights is c times the lower total
--   upper-times   the upper total there is at most c times the upper total
--   lower-sum     the lower total at a sum of mixtures is at most the sum of their lower totals, whatever the masks are
use Rattle.integers.proofs.Kit.{◌≡◌, ◌∙◌, ap, sym, true, Bool, ◌||◌, ℕ, ◌≤◌, ◌<◌, ◌+◌, ◌*◌, suc, zero, ◌/◌, arith, eqb, ℤ, pos, ◌+ℤ◌, negsuc, ◌-ℤ◌, ◌≤ℤ◌}
use native.Mathlib.Nat as NatL
use Rattle.integers.specs.Whole.{◌·◌, largest_to, lesser}
use Rattle.integers.proofs.Parts.{sub-parts-ℤ, times-parts, le-by}
use Rattle.integers.proofs.Order.{≤-of, ≤_trans, ≤-antisym, add-mono, add-·, ·-·, ·-mono, lesser-by, lesser-left, lesser-right}
use Rattle.integers.proofs.Sums.{sum-add, sum-cong, sum-·, largest-ind, largest-part}
use Rattle.integers.proofs.Searches.{at_every, every-cong, zero_or, some-cong, some-index, of-max, largest-in, largest-max, times_none}
use Rattle.tables.specs.Model.{Model}
use Rattle.plans.specs.Level.{Level, counts, product, Ratio, none, ratio, joined, smallest, or_none, drop, gain, ceiling}
use Rattle.plans.specs.Rows.{highest, best_row}
use Rattle.plans.specs.Totals.{some_counts, best, lower, upper}
use Rattle.plans.proofs.Agreement.{best-exists, best-counts, counts-covers}

-- what counts earns no more than the lower total
lower-most : (M : Model) (L : Level) (b : ℕ → ℕ) (v : ℕ) → v < L.vectors → counts M.states L b v ≡ true
    → product M.states b (L.entry v) ≤ℤ lower M L b
unfolding lower best
lower-most M L b v l h = of-max (counts M.states L b) (λ v. product M.states b (L.entry v)) L.vectors v l h

-- ---- c times the weights
module _ (n c : ℕ) (b b' : ℕ → ℕ) (same : (s : ℕ) → s < n → b' s ≡ c * b s) where
  product-times : (e : ℕ → ℤ) → product n b' e ≡ c · product n b e
  unfolding product
  product-times e = sum-cong n _ _ (λ s l. rw (same s l) (·-· c (b s) (e s))) ∙ sum-· c n (λ s. b s · e s)

  pub counts-times : 0 < c → (L : Level) (v : ℕ) → counts n L b' v ≡ counts n L b v
  unfolding counts
  counts-times some L v =
      every-cong n _ _ (λ s l. ap (λ (x : Bool). x || L.covers v s) (ap (λ (x : ℕ). eqb x 0) (same s l) ∙ times_none c (b s) some))

  -- a quotient that is rounded down grows at least by c
  quotient-times : (x k : ℕ) → 0 < k → c * (x / k) ≤ (c * x) / k
  quotient-times x k some =
      (NatL.le-div_iff_mul-le {k = k} {x = c * (x / k)} {y = c * x} some).1
      (rw (NatL.mul_assoc c (x / k) k) (NatL.mul-le-mul_left c (omega (arith, NatL.div-add-mod' x k))))

  -- and so does the smallest of some
  data Grows : Ratio → Ratio → Type 0 where
    neither : Grows none none
    both : {d d' : ℕ} → c * d ≤ d' → Grows (ratio d) (ratio d')

  joined-grows : {r r' : Ratio} → Grows r r' → (x w : ℕ) → Grows (joined r x w) (joined r' (c * x) w)
  unfolding joined
  joined-grows g x zero = g
  joined-grows neither x (suc w) = both (quotient-times x (suc w) (omega arith))
  joined-grows (both {d} {d'} h) x (suc w) =
      let y = x / suc w in
      both (NatL.le-min (NatL.le_trans (NatL.mul-le-mul_left c (NatL.min-le_left d y)) h)
      (NatL.le_trans (NatL.mul-le-mul_left c (NatL.min-le_right d y)) (quotient-times x (suc w) (omega arith))))

  smallest-grows : (m : ℕ) → m ≤ n → (p : ℕ → ℕ) (G : ℕ) → Grows (smallest m p b G) (smallest m p b' G)
  unfolding smallest
  smallest-grows zero l p G = neither
  smallest-grows (suc m) l p G =
      rw (same m (omega arith), NatL.mul_assoc c (b m) G) (joined-grows (smallest-grows m (omega arith) p G) (b m * G) (p m))

  none-grows : {r r' : Ratio} → Grows r r' → c * or_none r ≤ or_none r'
  unfolding or_none
  none-grows neither = omega arith
  none-grows (both h) = h

  drop-grows : (p : ℕ → ℕ) (z : ℤ) → c * drop n p b z ≤ drop n p b' z
  unfolding drop
  drop-grows p (pos zero) = omega arith
  drop-grows p (pos (suc G)) = none-grows (smallest-grows n (omega arith) p (suc G))
  drop-grows p (negsuc G) = omega arith

  -- Corners · q grows by c and the largest drop by at least c, so the ceiling grows by at most c. Qed.
  ceiling-times : (L : Level) → ceiling n L b' ≤ℤ c · ceiling n L b
  unfolding ceiling
  ceiling-times L =
      rw (product-times L.corner) (less (product n b L.corner) (largest_to L.points drops) (largest_to L.points drops')
      (largest-ind (λ (z : ℕ). c * z ≤ largest_to L.points drops') L.points drops (omega arith)
      (λ i l. NatL.le_trans (drop-grows (L.weight i) (gain n L i)) (largest-part L.points drops' i l))))
    where
      drops : ℕ → ℕ
      drops i = drop n (L.weight i) b (gain n L i)

      drops' : ℕ → ℕ
      drops' i = drop n (L.weight i) b' (gain n L i)

      less : (x : ℤ) (d d' : ℕ) → c * d ≤ d' → (c · x -ℤ pos d') ≤ℤ c · (x -ℤ pos d)
      less x d d' h =
          le-by _ _ (omega (
            arith,
            h,
            sub-parts-ℤ (c · x) (pos d'),
            times-parts c x,
            times-parts c (x -ℤ pos d),
            ap (λ (k : ℕ). c * k) (sub-parts-ℤ x (pos d)),
          ))

module _ (M : Model) (c : ℕ) (b b' : ℕ → ℕ) (same : (s : ℕ) → s < M.states → b' s ≡ c * b s) where
  row-times : (F : ℕ → ℕ → ℤ) → 0 < M.actions → best_row M F b' ≤ℤ c · best_row M F b
  unfolding best_row highest
  row-times F some =
      rw (product-times M.states c b b' same) (·-mono c (largest-max M.actions (λ a. product M.states b (F a)) _ (largest-in _ _ some)))

  -- Each total at b' is that at b of a vector that counts at both, times c. Qed.
  pub lower-times : (L : Level) → 0 < c → some_counts M L b ≡ true → lower M L b' ≡ c · lower M L b
  unfolding lower
  lower-times L some h = ≤-antisym above below
    where
      at : (v : ℕ) → product M.states b' (L.entry v) ≡ c · product M.states b (L.entry v)
      at v = product-times M.states c b b' same (L.entry v)

      h' : some_counts M L b' ≡ true
      h' = some-cong L.vectors _ _ (λ v l. counts-times M.states c b b' same some L v) ∙ h

      above : lower M L b' ≤ℤ c · lower M L b
      above =
          let v = best M L b' in
          let l = best-exists M L b' (some-index _ _ h) in
          rw (at v) (·-mono c (lower-most M L b v l (sym (counts-times M.states c b b' same some L v) ∙ best-counts M L b' h')))

      below : c · lower M L b ≤ℤ lower M L b'
      below =
          let v = best M L b in
          let l = best-exists M L b (some-index _ _ h) in
          ≤_trans (≤-of (sym (at v))) (lower-most M L b' v l (counts-times M.states c b b' same some L v ∙ best-counts M L b h))

  -- The upper total is the ceiling or the best row, and both grow by at most c. Qed.
  pub upper-times : (L : Level) (F : ℕ → ℕ → ℤ) → 0 < M.actions → upper M L F b' ≤ℤ c · upper M L F b
  unfolding upper
  upper-times L F some =
      lesser-by (λ z. lesser (ceiling M.states L b') (best_row M F b') ≤ℤ c · z) _ _
      (λ _. ≤_trans (lesser-left _ _) (ceiling-times M.states c b b' same L)) (λ _. ≤_trans (lesser-right _ _) (row-times F some))

-- ---- sums
-- what counts at a sum counts at both of its parts
module _ (n : ℕ) (b b' b'' : ℕ → ℕ) (same : (s : ℕ) → s < n → b'' s ≡ b s + b' s) where
  product-sum : (e : ℕ → ℤ) → product n b'' e ≡ product n b e +ℤ product n b' e
  unfolding product
  product-sum e = sum-cong n _ _ (λ s l. rw (same s l) (add-· (b s) (b' s) (e s))) ∙ sum-add n (λ s. b s · e s) (λ s. b' s · e s)

counts-part : (n : ℕ) (L : Level) (b b'' : ℕ → ℕ) (v : ℕ) → ((s : ℕ) → s < n → b s ≤ b'' s) → counts n L b'' v ≡ true → counts n L b v ≡ true
unfolding counts
counts-part n L b b'' v less h = at_every n _ (λ s l. zero_or (b s) _ (λ above. counts-covers n L b'' v h s l (omega (arith, above, less s l))))

-- The best vector at the sum covers each state with weight in it, so it counts at both mixtures; its product there is the sum of its products with both. Qed.
pub lower-sum : (M : Model) (L : Level) → 0 < L.vectors → (b b' b'' : ℕ → ℕ) → ((s : ℕ) → s < M.states → b'' s ≡ b s + b' s)
    → some_counts M L b'' ≡ true → lower M L b'' ≤ℤ (lower M L b +ℤ lower M L b')
unfolding lower
lower-sum M L some b b' b'' same h =
    let n = M.states in
    let v = best M L b'' in
    let l = best-exists M L b'' some in
    let counted = best-counts M L b'' h in
    ≤_trans (≤-of (product-sum n b b' b'' same (L.entry v)))
    (add-mono (lower-most M L b v l (counts-part n L b b'' v (λ s k. omega (arith, same s k)) counted))
    (lower-most M L b' v l (counts-part n L b' b'' v (λ s k. omega (arith, same s k)) counted)))
