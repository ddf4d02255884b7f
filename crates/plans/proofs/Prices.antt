-- New prices: a level and rows that are certified stay so under new rewards, once they are moved by t times the largest change and held at the ends of their
-- ranges. Assumes nothing.
--
--   earns-near, earns-range   how far what a plan earns moves, and how far it reaches
--   certified-repriced        a certified level
--   rows-repriced             certified rows
--   repriced-shaped, ..       shapes and ranges are kept
--   repriced-agree, ..        levels and rows that agree still do
use Rattle.integers.proofs.Kit.{◌≡◌, ◌∙◌, refl, ap, sym, true, false, Bool, cond, ℕ, ◌≤◌, ◌<◌, ◌*◌, suc, ◌^◌, arith, ℤ, pos, nat_abs, ◌+ℤ◌}
use Rattle.integers.proofs.Kit.{◌-ℤ◌, neg_ℤ, ◌≤ℤ◌, lt_z}
use native.Mathlib.Nat as NatL
use Rattle.integers.specs.Whole.{◌·◌, sum_to, total_to, largest_to, lesser}
use Rattle.integers.proofs.Parts.{add_parts, sub-parts-ℤ, neg-parts, times-parts, abs-parts, le-by, le_parts, lt_z-false}
use Rattle.integers.proofs.Order.{≤-refl, ≤-of, ≤_trans, add-mono, sub-≤, lesser-by, lesser-left, lesser-right, ·-add, ·-mono}
use Rattle.integers.proofs.Searches.{cond-by}
use Rattle.integers.proofs.Sums.{sum-cong, sum_mono, sum-add, total-·, total-cong, largest-part}
use Rattle.integers.proofs.Sizes.{abs-add, times-bound, sum-weighed, abs-below, abs-above, abs-between, multiple-below, multiple-above}
use Rattle.tables.specs.Limits.{one, max_reward, K}
use Rattle.tables.specs.Model.{Model, Valid}
use Rattle.plans.specs.Limits.{range}
use Rattle.plans.specs.Plan.{Plan, stop, step, Fits, earns, earns_at}
use Rattle.plans.specs.Level.{Level, ShapedUpTo, Agree}
use Rattle.plans.specs.Prices.{SamePlans, change, fallen, risen, repriced, raised_rows}
use Rattle.plans.proofs.Certified.{Certified, RowsCertified}
use Rattle.plans.proofs.Built.{chances, sums-weighed}
use Rattle.plans.proofs.Rows.{RowsWithin}

-- ---- models that differ in rewards
same_back : {M M' : Model} → SamePlans M M' → SamePlans M' M
same_back e = record {
  states_same = sym e.states_same;
  actions_same = sym e.actions_same;
  observations_same = sym e.observations_same;
  discount_same = sym e.discount_same;
  transition_same = λ a la s ls s' ls'.
      sym (e.transition_same a (rw e.actions_same at la) s (rw e.states_same at ls) s' (rw e.states_same at ls'));
  observation_same = λ a la s' ls' o lo.
      sym (e.observation_same a (rw e.actions_same at la) s' (rw e.states_same at ls') o (rw e.observations_same at lo));
}

-- plans of the one are plans of the other
fits-same : {M M' : Model} → SamePlans M M' → {t : ℕ} (π : Plan t) → Fits M π → Fits M' π
unfolding Fits
fits-same e stop f = tt
fits-same e (step a next) f = (rw e.actions_same f.0, λ o l. fits-same e (next o) (f.1 o (rw e.observations_same at l)))

-- no reward changes by more than the largest change
change-bound : (M M' : Model) (a : ℕ) → a < M.actions → (s : ℕ) → s < M.states → nat_abs (M'.reward s a -ℤ M.reward s a) ≤ change M M'
unfolding change
change-bound M M' a la s ls =
    let f : ℕ → ℕ → ℕ = λ a s. nat_abs (M'.reward s a -ℤ M.reward s a) in
    NatL.le_trans (largest-part M.states (f a) s ls) (largest-part M.actions (λ a. largest_to M.states (f a)) a la)

-- ---- what a plan earns
-- rewards of the second model are at most d above those of the first
abbrev Higher : Model → Model → ℕ → Type 0
Higher M M' d = (a : ℕ) → a < M.actions → (s : ℕ) → s < M.states → M'.reward s a ≤ℤ (M.reward s a +ℤ pos d)

change-above : (M M' : Model) → Higher M M' (change M M')
change-above M M' a la s ls =
    le-by _ _ (omega (
      arith,
      change-bound M M' a la s ls,
      abs-parts (M'.reward s a -ℤ M.reward s a),
      sub-parts-ℤ (M'.reward s a) (M.reward s a),
      add_parts (M.reward s a) (pos (change M M')),
    ))

change-below : {M M' : Model} → SamePlans M M' → Higher M' M (change M M')
change-below {M} {M'} e a la s ls =
    le-by _ _ (omega (
      arith,
      change-bound M M' a (rw e.actions_same at la) s (rw e.states_same at ls),
      abs-parts (M'.reward s a -ℤ M.reward s a),
      sub-parts-ℤ (M'.reward s a) (M.reward s a),
      add_parts (M'.reward s a) (pos (change M M')),
    ))

-- what is left of B after a step, of which the discount is at most one and the chances total one × one
shrinks : (g B : ℕ) → g ≤ one → g * (one * one * B) ≤ K * B
unfolding K
shrinks g B h = omega (arith, NatL.mul-le-mul_right (one * one * B) h)

-- a step of which the reward rises by d and what follows by d × t, times K^t
step-near : (g t d : ℕ) (r x : ℤ) → g ≤ one
    → ((K ^ suc t) · (r +ℤ pos d) +ℤ g · (x +ℤ (one * one) · pos (K ^ t * (d * t)))) ≤ℤ (((K ^ suc t) · r +ℤ g · x) +ℤ pos (K ^ suc t * (d * suc t)))
step-near g t d r x h =
    let P = K ^ suc t in
    let B = K ^ t * (d * t) in
    let y = (one * one) · pos B in
    rw (·-add P r (pos d), ·-add g x y) (le-by _ _ (omega (
      arith,
      add_parts (P · r) (P · pos d),
      add_parts (g · x) (g · y),
      add_parts (P · r +ℤ P · pos d) (g · x +ℤ g · y),
      add_parts (P · r) (g · x),
      add_parts (P · r +ℤ g · x) (pos (P * (d * suc t))),
      times-parts P (pos d),
      times-parts g y,
      ap (λ (z : ℕ). g * z) (times-parts (one * one) (pos B)).0,
      ap (λ (z : ℕ). g * z) (times-parts (one * one) (pos B)).1,
      shrinks g B h,
      ap (λ (z : ℕ). z * (d * t)) (NatL.pow-suc K t),
    )))

step_range : (g t : ℕ) (r x : ℤ) → g ≤ one → nat_abs r ≤ max_reward → nat_abs x ≤ one * one * (K ^ t * range t)
    → nat_abs ((K ^ suc t) · r +ℤ g · x) ≤ K ^ suc t * range (suc t)
unfolding range
step_range g t r x h hr hx =
    let P = K ^ suc t in
    omega (
      arith,
      abs-add (P · r) (g · x),
      times-bound P r (NatL.le_refl P) hr,
      times-bound g x (NatL.le_refl g) hx,
      shrinks g (K ^ t * (max_reward * t)) h,
      ap (λ (z : ℕ). z * t) (NatL.pow-suc K t),
    )

module _ {M M' : Model} (T : Valid M) (e : SamePlans M M') where
  -- the chances of reaching s' from s by a and seeing o there
  abbrev reached : ℕ → ℕ → ℕ → ℕ → ℕ
  reached s a s' o = M.transition s a s' * M.observation a s' o

  -- what follows, under either model
  ahead-same : (a : ℕ) → a < M.actions → (s : ℕ) → s < M.states → (next : ℕ → ℕ → ℤ)
      → M'.discount · sum_to M'.states (λ s'. sum_to M'.observations (λ o. (M'.transition s a s' * M'.observation a s' o) · next o s'))
      ≡ M.discount · sum_to M.states (λ s'. sum_to M.observations (λ o. reached s a s' o · next o s'))
  ahead-same a la s ls next =
      let term : ℕ → ℕ → ℤ = λ s' o. (M'.transition s a s' * M'.observation a s' o) · next o s' in
      ap (λ (g : ℕ). g · sum_to M'.states (λ s'. sum_to M'.observations (term s'))) e.discount_same
      ∙ ap (λ (n : ℕ). M.discount · sum_to n (λ s'. sum_to M'.observations (term s'))) e.states_same
      ∙ ap (λ (k : ℕ). M.discount · sum_to M.states (λ s'. sum_to k (term s'))) e.observations_same
      ∙ ap (λ (x : ℤ). M.discount · x) (sum-cong M.states _ _ (λ s' l. sum-cong M.observations _ _
      (λ o b. rw (e.transition_same a la s ls s' l, e.observation_same a la s' l o b))))

  -- what is at most B higher everywhere is, after a step, at most one × one × B higher
  ahead-near : (a : ℕ) → a < M.actions → (s : ℕ) → s < M.states → (next next' : ℕ → ℕ → ℤ) (B : ℕ)
      → ((s' : ℕ) → s' < M.states → (o : ℕ) → o < M.observations → next' o s' ≤ℤ (next o s' +ℤ pos B))
      → sum_to M.states (λ s'. sum_to M.observations (λ o. reached s a s' o · next' o s'))
      ≤ℤ (sum_to M.states (λ s'. sum_to M.observations (λ o. reached s a s' o · next o s')) +ℤ (one * one) · pos B)
  ahead-near a la s ls next next' B h =
      ≤_trans (sum_mono M.states _ _ (λ s' l. sum_mono M.observations _ _ (λ o b. ·-mono (reached s a s' o) (h s' l o b)))) (≤-of split)
    where
      k : ℕ
      k = M.observations

      split : sum_to M.states (λ s'. sum_to k (λ o. reached s a s' o · (next o s' +ℤ pos B)))
          ≡ sum_to M.states (λ s'. sum_to k (λ o. reached s a s' o · next o s')) +ℤ (one * one) · pos B
      split =
          sum-cong M.states _ _ (λ s' l. sum-cong k _ _ (λ o b. ·-add (reached s a s' o) (next o s') (pos B))
          ∙ sum-add k (λ o. reached s a s' o · next o s') (λ o. reached s a s' o · pos B)
          ∙ ap (λ (z : ℤ). sum_to k (λ o. reached s a s' o · next o s') +ℤ z) (sym (total-· k (reached s a s') (pos B))))
          ∙ sum-add M.states (λ s'. sum_to k (λ o. reached s a s' o · next o s')) (λ s'. total_to k (reached s a s') · pos B)
          ∙ ap (λ (z : ℤ). sum_to M.states (λ s'. sum_to k (λ o. reached s a s' o · next o s')) +ℤ z)
          (sym (total-· M.states (λ s'. total_to k (reached s a s')) (pos B)) ∙ ap (λ (w : ℕ). w · pos B) (chances M T a la s ls))

  -- What a plan of t steps earns rises by at most d × t, times K^t, where no reward rises by more than d.
  -- By induction over the plan. A step adds at most d, times K^(t+1). What follows rises by at most d × t, times K^t, in each case; the chances total
  -- one × one and the discount is at most one, so that is at most K × K^t × d × t in all. Together it is K^(t+1) × d × (t + 1). Qed.
  earns-near : (d : ℕ) → Higher M M' d → {t : ℕ} (π : Plan t) → Fits M π → (s : ℕ) → s < M.states
      → earns M' π s ≤ℤ (earns M π s +ℤ pos (K ^ t * (d * t)))
  unfolding Fits earns
  earns-near d h stop f s l = le-by _ _ (omega (arith, add_parts (pos 0) (pos (K ^ 0 * (d * 0)))))
  earns-near d h (step {t = t} a next) f s l =
      rw (ahead-same a f.0 s l (λ o s'. earns M' (next o) s')) (≤_trans (add-mono (·-mono (K ^ suc t) (h a f.0 s l)) (·-mono M.discount
      (ahead-near a f.0 s l (λ o s'. earns M (next o) s') (λ o s'. earns M' (next o) s') _ (λ s' l' o b. earns-near d h (next o) (f.1 o b) s' l'))))
      (step-near M.discount t d (M.reward s a) _ T.discount_limit))

-- What a plan of t steps earns lies within range t, times K^t: each step adds at most max_reward, and what follows does not grow. Qed.
earns-range : {M : Model} → Valid M → {t : ℕ} (π : Plan t) → Fits M π → (s : ℕ) → s < M.states → nat_abs (earns M π s) ≤ K ^ t * range t
unfolding Fits earns
earns-range T stop f s l = omega arith
earns-range {M} T (step {t = t} a next) f s l =
    let reached : ℕ → ℕ → ℕ = λ s' o. M.transition s a s' * M.observation a s' o in
    let x = sum_to M.states (λ s'. sum_to M.observations (λ o. reached s' o · earns M (next o) s')) in
    let ahead : nat_abs x ≤ one * one * (K ^ t * range t) = rw (chances M T a f.0 s l) at
    (sums-weighed M.states M.observations (K ^ t * range t) reached (λ s' o. earns M (next o) s')
    (λ s' l' o b. earns-range T (next o) (f.1 o b) s' l')) in
    step_range M.discount t (M.reward s a) x T.discount_limit (T.reward_limit a f.0 s l) ahead

-- ---- fallen and risen
-- what holds of either, where it is the one
fallen-by : (P : ℤ → Type 0) (limit : ℕ) (x : ℤ) (k : ℕ) → (neg_ℤ (pos limit) ≤ℤ (x -ℤ pos k) → P (x -ℤ pos k)) → P (neg_ℤ (pos limit))
    → P (fallen limit x k)
unfolding fallen
fallen-by P limit x k h held = by (lt_z (x -ℤ pos k) (neg_ℤ (pos limit))) refl
  where
    by : (c : Bool) → lt_z (x -ℤ pos k) (neg_ℤ (pos limit)) ≡ c → P (cond c (neg_ℤ (pos limit)) (x -ℤ pos k))
    by true e = held
    by false e = h (le-by _ _ (lt_z-false (x -ℤ pos k) (neg_ℤ (pos limit)) e))

fallen-range : (limit : ℕ) (x : ℤ) (k : ℕ) → nat_abs x ≤ limit → nat_abs (fallen limit x k) ≤ limit
fallen-range limit x k h =
    fallen-by (λ z. nat_abs z ≤ limit) limit x k (λ low. abs-between limit _ (≤_trans (sub-≤ x k) (abs-below limit x h)) low)
    (omega (arith, abs-parts (neg_ℤ (pos limit)), neg-parts (pos limit)))

risen-range : (limit : ℕ) (x : ℤ) (k : ℕ) → nat_abs x ≤ limit → nat_abs (risen limit x k) ≤ limit
unfolding risen
risen-range limit x k h =
    lesser-by (λ z. nat_abs z ≤ limit) (x +ℤ pos k) (pos limit)
    (λ high. abs-between limit _ high (≤_trans (abs-above limit x h) (le-by _ _ (omega (arith, add_parts x (pos k)))))) (λ high. omega arith)

-- both move alike, and are held at one end
risen-mono : (limit : ℕ) (x y : ℤ) (k : ℕ) → x ≤ℤ y → risen limit x k ≤ℤ risen limit y k
unfolding risen
risen-mono limit x y k h =
    lesser-by (λ z. lesser (x +ℤ pos k) (pos limit) ≤ℤ z) (y +ℤ pos k) (pos limit)
    (λ _. ≤_trans (lesser-left _ _) (add-mono h (≤-refl (pos k)))) (λ _. lesser-right _ _)

-- What is at most z, times mul, is so after it fell by k, where z falls by at most mul × k; and minus the limit is, where z lies within mul × limit.
fallen-below : (mul limit k : ℕ) (x z z' : ℤ) → mul · x ≤ℤ z → z ≤ℤ (z' +ℤ pos (mul * k)) → nat_abs z' ≤ mul * limit → mul · fallen limit x k ≤ℤ z'
fallen-below mul limit k x z z' h near within =
    fallen-by (λ w. mul · w ≤ℤ z') limit x k (λ _. le-by _ _ (omega (
      arith,
      le_parts h,
      le_parts near,
      add_parts z' (pos (mul * k)),
      times-parts mul x,
      times-parts mul (x -ℤ pos k),
      ap (λ (w : ℕ). mul * w) (sub-parts-ℤ x (pos k)),
    ))) (multiple-above mul limit z' within)

-- the same from above
risen-above : (mul limit k : ℕ) (x z z' : ℤ) → z ≤ℤ mul · x → z' ≤ℤ (z +ℤ pos (mul * k)) → nat_abs z' ≤ mul * limit → z' ≤ℤ mul · risen limit x k
unfolding risen
risen-above mul limit k x z z' h near within =
    lesser-by (λ w. z' ≤ℤ mul · w) (x +ℤ pos k) (pos limit) (λ _. le-by _ _ (omega (
      arith,
      le_parts h,
      le_parts near,
      add_parts z (pos (mul * k)),
      times-parts mul x,
      times-parts mul (x +ℤ pos k),
      ap (λ (w : ℕ). mul * w) (add_parts x (pos k)),
    ))) (λ _. multiple-below mul limit z' within)

-- ---- what is certified
module _ {M M' : Model} (T : Valid M) (T' : Valid M') (e : SamePlans M M') (t : ℕ) where
  abbrev d : ℕ
  d = change M M'

  old-fits : (π : Plan t) → Fits M' π → Fits M π
  old-fits π f = fits-same (same_back e) π f

  above : (π : Plan t) → Fits M' π → (s : ℕ) → s < M.states → earns M' π s ≤ℤ (earns M π s +ℤ pos (K ^ t * (d * t)))
  above π f s l = earns-near T e d (change-above M M') π (old-fits π f) s l

  within : (π : Plan t) → Fits M' π → (s : ℕ) → s < M.states → nat_abs (earns M' π s) ≤ K ^ t * range t
  within π f s l = earns-range T' π f s (rw e.states_same l)

  -- a corner or an entry of a row
  risen-holds : (π : Plan t) → Fits M' π → (s : ℕ) → s < M.states → (x : ℤ) → earns M π s ≤ℤ (K ^ t) · x
      → earns M' π s ≤ℤ (K ^ t) · risen (range t) x (d * t)
  risen-holds π f s l x h = risen-above (K ^ t) (range t) (d * t) x _ _ h (above π f s l) (within π f s l)

  -- a point: what is said of each state is said of its weights
  value-holds : (π : Plan t) → Fits M' π → (w : ℕ → ℕ) (x : ℤ) → earns_at M π w ≤ℤ (K ^ t) · x
      → earns_at M' π w ≤ℤ (K ^ t) · risen (total_to M.states w * range t) x (total_to M.states w * (d * t))
  unfolding earns_at
  value-holds π f w x h =
      let n = M.states in
      let B = K ^ t * (d * t) in
      let all : ℕ → ℤ = λ s. w s · earns M' π s in
      let moved : sum_to n all ≤ℤ (sum_to n (λ s. w s · earns M π s) +ℤ total_to n w · pos B) =
      ≤_trans (sum_mono n _ _ (λ s l. ·-mono (w s) (above π f s l))) (≤-of (sum-cong n _ _ (λ s l. ·-add (w s) (earns M π s) (pos B))
      ∙ sum-add n (λ s. w s · earns M π s) (λ s. w s · pos B) ∙ ap (λ (z : ℤ). sum_to n (λ s. w s · earns M π s) +ℤ z) (sym (total-· n w (pos B))))) in
      ≤_trans (≤-of (ap (λ (k : ℕ). sum_to k all) e.states_same)) (risen-above (K ^ t) _ _ x _ _ h
      (≤_trans moved (le-by _ _ (omega (
        arith,
        add_parts (sum_to n (λ s. w s · earns M π s)) (total_to n w · pos B),
        add_parts (sum_to n (λ s. w s · earns M π s)) (pos (K ^ t * (total_to n w * (d * t)))),
        times-parts (total_to n w) (pos B),
      ))))
      (omega (arith, sum-weighed n (K ^ t * range t) w all (λ s l. times-bound (w s) (earns M' π s) (NatL.le_refl (w s)) (within π f s l)))))

  -- A level certified under the old rewards is certified under the new ones, once it is moved.
  -- No plan of t steps earns more than d × t less under the new rewards, times K^t (`earns-near`, the other way round): so a vector's plan still earns its
  -- entries less d × t; and none earns more than d × t more, so corners and values that rose by that still bound all plans. A number that was held
  -- at the end of its range does too, since no plan earns more than range t, either way (`earns-range`). Qed.
  pub certified-repriced : (L : Level) → Certified M t L → Certified M' t (repriced M.states t d L)
  unfolding repriced
  certified-repriced L c = record {
    vector = λ v l. let p = c.vector v l in record {
      plan = p.plan;
      fits = fits-same e p.plan p.fits;
      opens = p.opens;
      earned = λ s b covered. let b' = rw e.states_same at b in
          rw covered (fallen-below (K ^ t) (range t) (d * t) (L.entry v s) _ _ (p.earned s b' covered)
          (earns-near T' (same_back e) d (change-below e) p.plan (fits-same e p.plan p.fits) s b)
          (earns-range T' p.plan (fits-same e p.plan p.fits) s b));
    };
    corner = λ s b π f. let b' = rw e.states_same at b in risen-holds π f s b' (L.corner s) (c.corner s b' π (old-fits π f));
    point = λ i l π f. value-holds π f (L.weight i) (L.value i) (c.point i l π (old-fits π f));
  }

  -- Rows too: each entry moves as a corner does, and F ≤ Q is kept, since both rise alike and are held at one end. Qed.
  pub rows-repriced : (F Q : ℕ → ℕ → ℤ) → RowsCertified M t F Q → RowsCertified M' t (raised_rows t d F) (raised_rows t d Q)
  unfolding raised_rows
  rows-repriced F Q c = record {
    row = λ π f a o s b. let b' = rw e.states_same at b in risen-holds π f s b' (F a s) (c.row π (old-fits π f) a o s b');
    below = λ a la s b. risen-mono (range t) _ _ (d * t) (c.below a (rw e.actions_same at la) s (rw e.states_same at b));
  }

-- ---- shapes and ranges
module _ {M M' : Model} (e : SamePlans M M') (t d : ℕ) where
  -- Counts, actions and weights stay; each number that moves is held within its range. Qed.
  pub repriced-shaped : {most : ℕ} (L : Level) → ShapedUpTo most M t L → ShapedUpTo most M' t (repriced M.states t d L)
  unfolding repriced
  repriced-shaped L S = record {
    some_vectors = S.some_vectors;
    few_vectors = S.few_vectors;
    few_points = S.few_points;
    action_in = λ v l. rw e.actions_same (S.action_in v l);
    entry_fits = λ v l s b.
        let h = S.entry_fits v l s (rw e.states_same at b) in
        cond-by (λ z. nat_abs z ≤ range t) (L.covers v s) (fallen-range (range t) (L.entry v s) (d * t) h) h;
    corner_fits = λ s b. risen-range (range t) (L.corner s) (d * t) (S.corner_fits s (rw e.states_same at b));
    value_fits = λ i l. rw e.states_same (risen-range _ (L.value i) _ (S.value_fits i l));
    total = λ i l. rw e.states_same (S.total i l);
  }

  pub raised-within : (F : ℕ → ℕ → ℤ) → RowsWithin M (range t) F → RowsWithin M' (range t) (raised_rows t d F)
  unfolding raised_rows
  raised-within F h a la s b = risen-range (range t) (F a s) (d * t) (h a (rw e.actions_same at la) s (rw e.states_same at b))

  -- ---- levels that agree
  -- Each part is made of parts that agree. Qed.
  pub repriced-agree : (L L' : Level) → Agree M L L' → Agree M' (repriced M.states t d L) (repriced M.states t d L')
  unfolding repriced
  repriced-agree L L' g = record {
    vectors_same = g.vectors_same;
    points_same = g.points_same;
    action_same = g.action_same;
    choice_same = λ v l o b. g.choice_same v l o (rw e.observations_same at b);
    covers_same = λ v l s b. g.covers_same v l s (rw e.states_same at b);
    entry_same = λ v l s b. let b' = rw e.states_same at b in rw (g.covers_same v l s b', g.entry_same v l s b');
    corner_same = λ s b. rw (g.corner_same s (rw e.states_same at b));
    weight_same = λ i l s b. g.weight_same i l s (rw e.states_same at b);
    value_same = λ i l. rw (g.value_same i l, total-cong M.states _ _ (g.weight_same i l));
  }

-- what agrees under the one model agrees under the other: their counts are the same
pub agree_same : {M M' : Model} → SamePlans M M' → {L L' : Level} → Agree M L L' → Agree M' L L'
agree_same e g = record {
  vectors_same = g.vectors_same;
  points_same = g.points_same;
  action_same = g.action_same;
  choice_same = λ v l o b. g.choice_same v l o (rw e.observations_same at b);
  covers_same = λ v l s b. g.covers_same v l s (rw e.states_same at b);
  entry_same = λ v l s b. g.entry_same v l s (rw e.states_same at b);
  corner_same = λ s b. g.corner_same s (rw e.states_same at b);
  weight_same = λ i l s b. g.weight_same i l s (rw e.states_same at b);
  value_same = g.value_same;
}
