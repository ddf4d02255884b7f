-- The ceiling: no plan that fits the model earns more than the sawtooth ceiling of a certified level. Assumes nothing.
--
-- In order: the smallest ratio; products; one point; every point; weight 1 on one state; the backup at weights p; the ceiling of a certified level;
-- corners and points.
use Rattle.integers.proofs.Kit.{◌≡◌, ◌∙◌, refl, ap, sym, ℕ, ◌≤◌, ◌<◌, ◌+◌, ◌*◌, suc, ◌-◌, zero, ◌^◌, ◌/◌, arith, dec_lt, ℤ, pos, ◌+ℤ◌, negsuc, ◌-ℤ◌, ◌≤ℤ◌}
use native.Mathlib.Nat as NatL
use lib.IntN.{+ℤ_idl, +ℤ_idr}
use Rattle.integers.specs.Whole.{◌·◌, sum_to, total_to}
use Rattle.integers.proofs.Parts.{up, times-parts}
use Rattle.integers.proofs.Order.{≤-of, ≤_trans, add-mono, sub-zero, sub-gap, add_sub_cancel}
use Rattle.integers.proofs.Order.{·-add, add-·, ·-·, ·-swap, ·-neg, ·-zero, zero-·, one-·, ·-pos, ·-mono, ·-cancel}
use Rattle.integers.proofs.Sums.{sum-add, sum-·, sum-cong, sum-swap, total-·, ≤-·-sum, largest-ind}
use Rattle.integers.proofs.Searches.{below_suc}
use Rattle.tables.specs.Limits.{K}
use Rattle.tables.specs.Model.{Model, successor, expected_reward}
use Rattle.plans.specs.Plan.{Plan, stop, step, Fits, earns, earns_at}
use Rattle.plans.specs.Level.{Level, level0, Meets, product, ceiling, backup_at, corner_weight, Ratio, none, ratio, joined, smallest, or_none, drop, gain}
use Rattle.plans.proofs.Certified.{Certified}
use Rattle.plans.proofs.Floor.{pow-·}

-- ---- the smallest ratio
-- weight w times the ratio is at most x; where there is no ratio, w is 0
unfoldable pub Safe : Ratio → ℕ → ℕ → Type 0
Safe none w x = w ≡ 0
Safe (ratio d) w x = d * w ≤ x

safe-drop : (r : Ratio) (w x : ℕ) → Safe r w x → or_none r * w ≤ x
unfolding Safe or_none
safe-drop none w x h = omega arith
safe-drop (ratio d) w x h = h

joined-new : (r : Ratio) (x w : ℕ) → Safe (joined r x w) w x
unfolding Safe joined
joined-new none x zero = refl
joined-new (ratio d) x zero = omega arith
joined-new none x (suc w) = NatL.div-mul-le_self x (suc w)
joined-new (ratio d) x (suc w) =
    omega (arith, NatL.div-mul-le_self x (suc w), NatL.mul-le-mul_right (suc w) (NatL.min-le_right d (x / suc w)))

joined-old : (r : Ratio) (x w x' w' : ℕ) → Safe r w' x' → Safe (joined r x w) w' x'
unfolding Safe joined
joined-old none x zero x' w' h = h
joined-old (ratio d) x zero x' w' h = h
joined-old none x (suc w) x' w' h = rw h (omega arith)
joined-old (ratio d) x (suc w) x' w' h = omega (arith, NatL.mul-le-mul_right w' (NatL.min-le_left d (x / suc w)))

pub smallest-safe : (n : ℕ) (p q : ℕ → ℕ) (G s : ℕ) → s < n → Safe (smallest n p q G) (p s) (q s * G)
unfolding smallest
smallest-safe zero p q G s l = absurd (omega arith)
smallest-safe (suc n) p q G s l =
    below_suc {P = λ s. Safe (smallest (suc n) p q G) (p s) (q s * G)} n
    (λ s l. joined-old (smallest n p q G) (q n * G) (p n) (q s * G) (p s) (smallest-safe n p q G s l)) (joined-new (smallest n p q G) (q n * G) (p n)) s l

-- The drop times p is at most q times the gain, at every state.
-- By induction over the states: the smallest ratio so far, times the weight of each state so far, is at most what was divided there. A new ratio x / w
-- rounded down has (x / w) × w ≤ x, and the smaller of two ratios keeps what held of either; a state of weight 0 asks nothing. Qed.
pub drop-below : (n : ℕ) (p q : ℕ → ℕ) (G s : ℕ) → s < n → or_none (smallest n p q G) * p s ≤ q s * G
drop-below n p q G s l = safe-drop (smallest n p q G) (p s) (q s * G) (smallest-safe n p q G s l)

-- ---- products
pub product-const : (n : ℕ) (q : ℕ → ℕ) (z : ℤ) → product n q (λ s. z) ≡ total_to n q · z
unfolding product
product-const n q z = sym (total-· n q z)

product-below : (n mul : ℕ) (q : ℕ → ℕ) (c f : ℕ → ℤ) → ((s : ℕ) → s < n → f s ≤ℤ mul · c s) → product n q f ≤ℤ mul · product n q c
unfolding product
product-below n mul q c f h = ≤-·-sum _ _ _ _ (λ s l. rw ·-swap (·-mono (q s) (h s l)))

-- ---- one point
module _ (n : ℕ) (p q : ℕ → ℕ) (d G : ℕ) (below : (s : ℕ) → s < n → d * p s ≤ q s * G) where
  rest : ℕ → ℕ
  rest s = q s * G - d * p s

  -- G × q is d × p and a rest that is not negative
  parts : (f : ℕ → ℤ) → G · product n q f ≡ d · product n p f +ℤ product n rest f
  unfolding product rest
  parts f =
      sym (sum-· G n (λ s. q s · f s)) ∙ sum-cong n _ _ term ∙ sum-add n (λ s. d · (p s · f s)) (λ s. rest s · f s)
      ∙ ap (λ x. x +ℤ sum_to n (λ s. rest s · f s)) (sum-· d n (λ s. p s · f s))
    where
      term : (s : ℕ) → s < n → G · (q s · f s) ≡ d · (p s · f s) +ℤ rest s · f s
      term s l =
          let k : d * p s ≤ q s * G = below s l in
          let e : G * q s ≡ d * p s + (q s * G - d * p s) = omega arith in
          rw (← ·-·, e, add-·, ·-·)

  saw : (mul : ℕ) (c f : ℕ → ℤ) (w : ℤ) → ((s : ℕ) → s < n → f s ≤ℤ mul · c s) → product n p f ≤ℤ mul · w → product n p c ≡ w +ℤ pos G
      → G · product n q f ≤ℤ G · (mul · (product n q c -ℤ pos d))
  saw mul c f w hc hw e = rw (·-swap, right, parts f, ·-add mul, ·-swap) (add-mono (·-mono d hw) (product-below n mul rest c f hc))
    where
      right : G · (product n q c -ℤ pos d) ≡ d · w +ℤ product n rest c
      right = rw (·-add, parts c, e, ·-add, ·-neg, ·-pos G d) (add_sub_cancel (d · w) (d · pos G) (product n rest c))

-- ---- every point
saw-drop : (n mul : ℕ) (p q : ℕ → ℕ) (c f : ℕ → ℤ) (w : ℤ) → ((s : ℕ) → s < n → f s ≤ℤ mul · c s) → product n p f ≤ℤ mul · w
    → (z : ℤ) → product n p c ≡ w +ℤ z → product n q f ≤ℤ mul · (product n q c -ℤ pos (drop n p q z))
unfolding drop
saw-drop n mul p q c f w hc hw (pos zero) e = rw sub-zero (product-below n mul q c f hc)
saw-drop n mul p q c f w hc hw (pos (suc G)) e =
    ·-cancel (suc G) (omega arith) (saw n p q (or_none (smallest n p q (suc G))) (suc G) (drop-below n p q (suc G)) mul c f w hc hw e)
saw-drop n mul p q c f w hc hw (negsuc G) e = rw sub-zero (product-below n mul q c f hc)

-- What is at most (mul times) the corners at every state and the value at every point is at most (mul times) the sawtooth ceiling at any weights q.
-- The ceiling at q is corners · q less the largest drop, so it is enough to show it for no drop and for the drop d of each point.
-- No drop: f · q ≤ corners · q, state by state. A point with weights p, value w and gain G = corners · p - w above 0: since d × p ≤ G × q at every
-- state (`drop-below`), G × q is d × p and a rest r of weights that are not negative. So G × (f · q) = d × (f · p) + f · r ≤ d × w + corners · r,
-- and that is G × (corners · q) - d × (corners · p) + d × w = G × (corners · q - d). Divide by G. Qed.
pub sawtooth : (n mul : ℕ) (L : Level) (f : ℕ → ℤ) → ((s : ℕ) → s < n → f s ≤ℤ mul · L.corner s)
    → ((i : ℕ) → i < L.points → product n (L.weight i) f ≤ℤ mul · L.value i)
    → (q : ℕ → ℕ) → product n q f ≤ℤ mul · ceiling n L q
unfolding ceiling gain
sawtooth n mul L f hc hp q =
    largest-ind (λ d. product n q f ≤ℤ mul · (product n q L.corner -ℤ pos d)) L.points _
    (rw sub-zero (product-below n mul q L.corner f hc))
    (λ i l. saw-drop n mul (L.weight i) q L.corner f (L.value i) hc (hp i l) _ (sub-gap (product n (L.weight i) L.corner) (L.value i)))

-- ---- weight 1 on one state
corner-own : (s : ℕ) → corner_weight s s ≡ 1
unfolding corner_weight
corner-own zero = refl
corner-own (suc s) = corner-own s

corner-before : (s i : ℕ) → i < s → corner_weight s i ≡ 0
unfolding corner_weight
corner-before zero i l = absurd (omega arith)
corner-before (suc s) zero l = refl
corner-before (suc s) (suc i) l = corner-before s i (omega arith)

corner-after : (s i : ℕ) → s < i → corner_weight s i ≡ 0
unfolding corner_weight
corner-after s zero l = absurd (omega arith)
corner-after zero (suc i) l = refl
corner-after (suc s) (suc i) l = corner-after s i (omega arith)

corner-none : (n s : ℕ) (f : ℕ → ℤ) → n ≤ s → product n (corner_weight s) f ≡ pos 0
unfolding product sum_to
corner-none zero s f l = refl
corner-none (suc n) s f l = rw (corner-none n s f (omega arith), corner-before s n l, zero-·) refl

pub corner-product : (n s : ℕ) (f : ℕ → ℤ) → s < n → product n (corner_weight s) f ≡ f s
unfolding product sum_to
corner-product zero s f l = absurd (omega arith)
corner-product (suc n) s f l = by (dec_lt s n) (λ h. corner-product n s f h)
  where
    by : Dec (s < n) → (s < n → product n (corner_weight s) f ≡ f s) → product n (corner_weight s) f +ℤ corner_weight s n · f n ≡ f s
    by (yes h) r = rw (r h, corner-after s n h, zero-·) (+ℤ_idr (f s))
    by (no h) r = let e : n ≡ s = omega arith in rw (e, corner-none s s f (omega arith), corner-own, one-·) (+ℤ_idl (f s))

pub corner-total : (n s : ℕ) → s < n → total_to n (corner_weight s) ≡ 1
corner-total n s l =
    let e = sym (product-const n (corner_weight s) (pos 1)) ∙ corner-product n s (λ i. pos 1) l in
    omega (arith, times-parts (total_to n (corner_weight s)) (pos 1), ap up e)

-- ---- the backup at weights p
-- What follows weights p, summed by state first, is summed by observation first with the successor weights: swap the sums and collect factors. Qed.
by-observation : (M : Model) (p : ℕ → ℕ) (a : ℕ) (next : ℕ → ℕ → ℤ)
    → sum_to M.states (λ s. p s · sum_to M.states (λ s'. sum_to M.observations (λ o. (M.transition s a s' * M.observation a s' o) · next o s')))
    ≡ sum_to M.observations (λ o. product M.states (successor M p a o) (next o))
unfolding product successor
by-observation M p a next =
    sum-cong n _ _ (λ s l. ap (λ z. p s · z) (sum-swap n k (λ s' o. x s s' o · next o s')) ∙ sym (sum-· (p s) k _))
    ∙ sum-swap n k (λ s o. p s · sum_to n (λ s'. x s s' o · next o s'))
    ∙ sum-cong k _ _ (λ o l. sum-cong n _ _ (λ s l'. sym (sum-· (p s) n _) ∙ sum-cong n _ _ (λ s' l''. term s s' o))
    ∙ sum-swap n n (λ s s'. (p s * M.transition s a s' * M.observation a s' o) · next o s')
    ∙ sum-cong n _ _ (λ s' l'. sym (total-· n (λ s. p s * M.transition s a s' * M.observation a s' o) (next o s'))))
  where
    n : ℕ
    n = M.states

    k : ℕ
    k = M.observations

    x : ℕ → ℕ → ℕ → ℕ
    x s s' o = M.transition s a s' * M.observation a s' o

    term : (s s' o : ℕ) → p s · (x s s' o · next o s') ≡ (p s * M.transition s a s' * M.observation a s' o) · next o s'
    term s s' o = rw (← ·-·, NatL.mul_assoc)

-- what a plan earns at weights p, by what its later plans earn at the successor weights
earns-at : (M : Model) (t a : ℕ) (plans : ℕ → Plan t) (p : ℕ → ℕ)
    → earns_at M (step a plans) p
    ≡ (K ^ suc t) · expected_reward M p a +ℤ M.discount · sum_to M.observations (λ o. earns_at M (plans o) (successor M p a o))
unfolding earns_at earns expected_reward product
earns-at M t a plans p =
    sum-cong M.states _ _ term
    ∙ sum-add M.states (λ s. (K ^ suc t) · (p s · M.reward s a)) (λ s. M.discount · (p s · ahead s))
    ∙ rw (
      sum-· (K ^ suc t) M.states (λ s. p s · M.reward s a),
      sum-· M.discount M.states (λ s. p s · ahead s),
      by-observation M p a (λ o s'. earns M (plans o) s'),
    )
  where
    ahead : ℕ → ℤ
    ahead s = sum_to M.states (λ s'. sum_to M.observations (λ o. (M.transition s a s' * M.observation a s' o) · earns M (plans o) s'))

    term : (s : ℕ) → s < M.states
        → p s · ((K ^ suc t) · M.reward s a +ℤ M.discount · ahead s) ≡ (K ^ suc t) · (p s · M.reward s a) +ℤ M.discount · (p s · ahead s)
    term s l = rw (·-add, ·-swap (p s) (K ^ suc t), ·-swap (p s) M.discount)

backup-ceiling : (M : Model) (L : Level) (t a : ℕ) (plans : ℕ → Plan t)
    → ((o : ℕ) → o < M.observations → (q : ℕ → ℕ) → earns_at M (plans o) q ≤ℤ (K ^ t) · ceiling M.states L q)
    → (p : ℕ → ℕ) → earns_at M (step a plans) p ≤ℤ (K ^ t) · backup_at M L p a
unfolding backup_at
backup-ceiling M L t a plans h p =
    rw (earns-at M t a plans p, ·-add) (add-mono (≤-of (sym (pow-· t _)))
    (rw (·-swap (K ^ t) M.discount) (·-mono M.discount (≤-·-sum _ _ _ _ (λ o l. h o l (successor M p a o))))))

-- ---- the ceiling of a certified level
-- No t-step plan that fits the model earns more, at any weights, than K^t times the ceiling of a level certified after t levels.
-- What a plan earns is at most K^t times the corners and the points' values; so `sawtooth` gives it at any weights. Qed.
pub roof : {M : Model} {t : ℕ} {L : Level} → Certified M t L → (π : Plan t) → Fits M π → (q : ℕ → ℕ)
    → earns_at M π q ≤ℤ (K ^ t) · ceiling M.states L q
unfolding earns_at product
roof {M} {t} {L} c π h q = sawtooth M.states (K ^ t) L (earns M π) (λ s l. c.corner s l π h) (λ i l. c.point i l π h) q

-- ---- corners and points
pub corner-0 : (M : Model) (s : ℕ) (π : Plan 0) → earns M π s ≤ℤ (K ^ 0) · level0.corner s
unfolding earns level0
corner-0 M s stop = ≤-of (sym (·-zero (K ^ 0)))

-- What no plan passes with t steps, at the weights p, none passes with one step more at a value w that is at least every action's backup there.
-- A plan with action a earns at p: K^(t+1) × the expected reward, and the discount times the sum over o of what its plan for o earns at the successor
-- weights (`earns-at`), which is at most K^t × the ceiling of the level before (`roof`). That is K^t × the backup at p, hence at most K^(t+1) × w. Qed.
module _ (M : Model) (t : ℕ) (L : Level) (c : Certified M t L) where
  value-next : (p : ℕ → ℕ) (w : ℤ) → ((a : ℕ) → a < M.actions → backup_at M L p a ≤ℤ K · w)
      → (π : Plan (suc t)) → Fits M π → earns_at M π p ≤ℤ (K ^ suc t) · w
  unfolding Fits
  value-next p w k (step a plans) h =
      rw (← pow-·) (≤_trans (backup-ceiling M L t a plans (λ o l q. roof c (plans o) (h.1 o l) q) p) (·-mono (K ^ t) (k a h.0)))

  module _ (W : Level) (m : Meets M L W) where
    pub corner-next : (s : ℕ) → s < M.states → (π : Plan (suc t)) → Fits M π → earns M π s ≤ℤ (K ^ suc t) · W.corner s
    unfolding earns_at product
    corner-next s l π h = rw (corner-product M.states s (earns M π) l) at (value-next (corner_weight s) (W.corner s) (m.corner s l) π h)

    pub point-next : (i : ℕ) → i < W.points → (π : Plan (suc t)) → Fits M π → earns_at M π (W.weight i) ≤ℤ (K ^ suc t) · W.value i
    point-next i l π h = value-next (W.weight i) (W.value i) (m.point i l) π h
