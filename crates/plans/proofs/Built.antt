-- The builder's level lies within the limits of its level and meets its inequalities. The laws of how large successor weights, backups and ceilings grow,
-- of which that is made, also rule out overflow in code. Assumes nothing.
--
-- In order: totals of tables; the next level's range; what the builder makes; ranges grow with the level.
use Rattle.integers.proofs.Kit.{◌≡◌, ◌∙◌, ap, true, ℕ, ◌≤◌, ◌+◌, ◌<◌, ◌*◌, suc, arith, ℤ, pos, nat_abs, ◌+ℤ◌, neg_ℤ, ◌≤ℤ◌}
use native.Mathlib.Nat as NatL
use Rattle.integers.specs.Whole.{◌·◌, sum_to, total_to, largest_to}
use Rattle.integers.proofs.Order.{≤_trans, sub-≤, one-·, ·-mono}
use Rattle.integers.proofs.Sums.{sum_mono, total-cong, total-mul, total-mul-right, total-swap, total-part}
use Rattle.integers.proofs.Sizes.{abs-add, abs-times, times-bound, sum-weighed, abs-below, abs-above, multiple-above, multiple-between}
use Rattle.integers.proofs.Rounding.{floor-≤, floor-range, ceil-≥, ceil-least, ceil-range}
use Rattle.integers.proofs.Searches.{every-at, largest-in, largest-max, of-in, of_some}
use Rattle.tables.specs.Limits.{one, max_reward, max_entry, K, max_levels}
use Rattle.tables.specs.Model.{Model, Valid, successor, expected_reward, backup, backed_up}
use Rattle.plans.specs.Limits.{max_built, range}
use Rattle.plans.specs.Level.{Level, covers_all, level0, product, drop, gain, ceiling, backup_at, corner_weight, follows, Meets, ShapedUpTo}
use Rattle.plans.specs.Level.{Shaped, IsPoint}
use Rattle.plans.specs.Build.{some_covers_all, chosen, entry_for, best_action, least_for, least_value, built}
use Rattle.plans.proofs.Ceiling.{sawtooth, product-const, corner-total}

-- ---- totals of tables
-- The chances of all that can follow a state and an action total one × one.
-- Sum over the observations first: T(s,a,s') is a common factor, and the row of observations totals one; then the row of transitions totals one. Qed.
pub chances : (M : Model) → Valid M → (a : ℕ) → a < M.actions → (s : ℕ) → s < M.states
    → total_to M.states (λ s'. total_to M.observations (λ o. M.transition s a s' * M.observation a s' o)) ≡ one * one
chances M T a la s ls =
    total-cong M.states _ (λ s'. M.transition s a s' * one)
    (λ s' l. total-mul M.observations (M.transition s a s') (M.observation a s') ∙ ap (λ (x : ℕ). M.transition s a s' * x) (T.observation_row a la s' l))
    ∙ total-mul-right M.states one (M.transition s a) ∙ ap (λ (x : ℕ). x * one) (T.transition_row a la s ls)

-- The successor weights of all observations total one × one times the weights.
-- Swap the sums so that the observations come first, then the states reached: the row of observations totals one at each state reached, and the row of
-- transitions totals one from each state. Qed.
pub successor-total : (M : Model) → Valid M → (p : ℕ → ℕ) (a : ℕ) → a < M.actions
    → total_to M.observations (λ o. total_to M.states (successor M p a o)) ≡ one * one * total_to M.states p
unfolding successor
successor-total M T p a la =
    total-swap M.observations M.states (λ o s'. total_to M.states (λ s. p s * M.transition s a s' * M.observation a s' o))
    ∙ total-cong M.states _ (λ s'. reached s' * one) seen
    ∙ total-mul-right M.states one reached
    ∙ ap (λ (x : ℕ). x * one) (total-swap M.states M.states (λ s' s. p s * M.transition s a s')
    ∙ total-cong M.states _ (λ s. p s * one) moved ∙ total-mul-right M.states one p)
    ∙ omega arith
  where
    reached : ℕ → ℕ
    reached s' = total_to M.states (λ s. p s * M.transition s a s')

    seen : (s' : ℕ) → s' < M.states
        → total_to M.observations (λ o. total_to M.states (λ s. p s * M.transition s a s' * M.observation a s' o)) ≡ reached s' * one
    seen s' l =
        total-cong M.observations _ (λ o. reached s' * M.observation a s' o)
        (λ o b. total-mul-right M.states (M.observation a s' o) (λ s. p s * M.transition s a s'))
        ∙ total-mul M.observations (reached s') (M.observation a s') ∙ ap (λ (x : ℕ). reached s' * x) (T.observation_row a la s' l)

    moved : (s : ℕ) → s < M.states → total_to M.states (λ s'. p s * M.transition s a s') ≡ p s * one
    moved s l = total-mul M.states (p s) (M.transition s a) ∙ ap (λ (x : ℕ). p s * x) (T.transition_row a la s l)

-- ---- the next level's range
pub K-positive : 0 < K
unfolding K
K-positive = omega arith

-- a backup of what lies within level t lies within level t + 1, where the weights total P
pub next-range : (g P t : ℕ) (x y : ℤ) → g ≤ one → nat_abs x ≤ P * max_reward → nat_abs y ≤ one * one * P * range t
    → nat_abs (K · x +ℤ g · y) ≤ K * (P * range (suc t))
unfolding K range
next-range g P t x y h hx hy =
    omega (arith, abs-add (K · x) (g · y), abs-times K x, times-bound g y (NatL.le_refl g) hy, NatL.mul-le-mul_right (P * t) h)

pub sums-weighed : (m n r : ℕ) (w : ℕ → ℕ → ℕ) (e : ℕ → ℕ → ℤ) → ((i : ℕ) → i < m → (j : ℕ) → j < n → nat_abs (e i j) ≤ r)
    → nat_abs (sum_to m (λ i. sum_to n (λ j. w i j · e i j))) ≤ total_to m (λ i. total_to n (λ j. w i j)) * r
sums-weighed m n r w e h =
    sum-weighed m r _ _ (λ i l. sum-weighed n r _ _ (λ j b. times-bound (w i j) (e i j) (NatL.le_refl (w i j)) (h i l j b)))

-- Backups of what lies within range t are within K times range (t + 1).
-- The reward is at most max_reward. What follows is a weighted sum of numbers within range t, whose weights total one × one (`chances`); times the
-- discount, at most one, and with K = one × one × one, it is within K × range t. And max_reward + range t = range (t + 1). Qed.
pub backup-within : (M : Model) (t : ℕ) → Valid M → (a : ℕ) → a < M.actions → (next : ℕ → ℕ → ℤ)
    → ((o : ℕ) → o < M.observations → (s' : ℕ) → s' < M.states → nat_abs (next o s') ≤ range t)
    → (s : ℕ) → s < M.states → nat_abs (backup M a next s) ≤ K * range (suc t)
unfolding backup
backup-within M t T a la next h s ls = omega (arith, within)
  where
    ahead : nat_abs (sum_to M.states (λ s'. sum_to M.observations (λ o. (M.transition s a s' * M.observation a s' o) · next o s')))
        ≤ total_to M.states (λ s'. total_to M.observations (λ o. M.transition s a s' * M.observation a s' o)) * range t
    ahead = sums-weighed M.states M.observations (range t) _ _ (λ s' l o b. h o b s' l)

    within : nat_abs (backup M a next s) ≤ K * (1 * range (suc t))
    within =
        next-range M.discount 1 t (M.reward s a) _ T.discount_limit (omega (arith, T.reward_limit a la s ls))
        (rw (chances M T a la s ls) at ahead)

-- in particular those of a level t that is within its limits
pub backup-range : {most : ℕ} (M : Model) (L : Level) (t : ℕ) → Valid M → ShapedUpTo most M t L → (a : ℕ) → a < M.actions → (choice : ℕ → ℕ)
    → ((o : ℕ) → o < M.observations → choice o < L.vectors) → (s : ℕ) → s < M.states
    → nat_abs (backup M a (follows L choice) s) ≤ K * range (suc t)
unfolding follows
backup-range M L t T S a la choice hc s ls =
    backup-within M t T a la (λ o s'. L.entry (choice o) s') (λ o b s' l. S.entry_fits (choice o) (hc o b) s' l) s ls

-- no weight of a state reached is above a million times the total of the weights
pub successor-limit : (M : Model) → Valid M → (p : ℕ → ℕ) (a o s' : ℕ) → a < M.actions → o < M.observations → s' < M.states
    → successor M p a o s' ≤ one * one * total_to M.states p
successor-limit M T p a o s' la lo ls =
    omega (
      arith,
      total-part M.states (successor M p a o) s' ls,
      total-part M.observations (λ o. total_to M.states (successor M p a o)) o lo,
      successor-total M T p a la,
    )

pub ceiling-below : (n : ℕ) (L : Level) (q : ℕ → ℕ) → ceiling n L q ≤ℤ product n q L.corner
unfolding ceiling
ceiling-below n L q = sub-≤ (product n q L.corner) (largest_to L.points (λ i. drop n (L.weight i) q (gain n L i)))

-- The ceiling at weights q lies within the total of q times the range.
-- Above: it is at most corners · q, and each corner is at most the range. Below: minus the range is at most every corner, and at every point minus the
-- range times the total of its weights is at most its value, whatever that total is; so `sawtooth` puts minus the range, at q, below the ceiling. Qed.
pub ceiling-range : {most : ℕ} (M : Model) (L : Level) (t : ℕ) → ShapedUpTo most M t L → (q : ℕ → ℕ)
    → nat_abs (ceiling M.states L q) ≤ total_to M.states q * range t
unfolding product
ceiling-range M L t S q = multiple-between (total_to M.states q) (range t) (ceiling M.states L q) high low
  where
    high : ceiling M.states L q ≤ℤ total_to M.states q · pos (range t)
    high =
        rw (← product-const) (≤_trans (ceiling-below M.states L q)
        (sum_mono M.states _ _ (λ s l. ·-mono (q s) (abs-below (range t) (L.corner s) (S.corner_fits s l)))))

    point-low : (i : ℕ) → i < L.points → product M.states (L.weight i) (λ s. neg_ℤ (pos (range t))) ≤ℤ L.value i
    point-low i l =
        rw (product-const M.states (L.weight i) (neg_ℤ (pos (range t))))
        (multiple-above (total_to M.states (L.weight i)) (range t) (L.value i) (S.value_fits i l))

    low : total_to M.states q · neg_ℤ (pos (range t)) ≤ℤ ceiling M.states L q
    low =
        rw (← product-const) (rw one-· at (sawtooth M.states 1 L (λ s. neg_ℤ (pos (range t)))
        (λ s l. rw one-· (abs-above (range t) (L.corner s) (S.corner_fits s l))) (λ i l. rw one-· (point-low i l)) q))

-- Backups at weights p lie within K times the range of level t + 1 times the total of p.
-- As for `backup-within`: the expected reward is within the total of p times max_reward, the ceilings at the successor weights are within their totals
-- times range t (`ceiling-range`), and those totals are one × one times the total of p (`successor-total`). Qed.
pub backup_at-range : {most : ℕ} (M : Model) (L : Level) (t : ℕ) → Valid M → ShapedUpTo most M t L → (p : ℕ → ℕ) (a : ℕ) → a < M.actions
    → nat_abs (backup_at M L p a) ≤ K * (total_to M.states p * range (suc t))
unfolding backup_at expected_reward
backup_at-range M L t T S p a la =
    next-range M.discount (total_to M.states p) t _ _ T.discount_limit
    (sum-weighed M.states max_reward p _ (λ s l. times-bound (p s) (M.reward s a) (NatL.le_refl (p s)) (T.reward_limit a la s l)))
    (rw (successor-total M T p a la) at ahead)
  where
    ahead : nat_abs (sum_to M.observations (λ o. ceiling M.states L (successor M p a o)))
        ≤ total_to M.observations (λ o. total_to M.states (successor M p a o)) * range t
    ahead = sum-weighed M.observations (range t) _ _ (λ o b. ceiling-range M L t S (successor M p a o))

-- ---- what the builder makes
pub action_exists : (M : Model) (L : Level) (p : ℕ → ℕ) → 0 < M.actions → best_action M L p < M.actions
unfolding best_action
action_exists M L p h = largest-in _ _ h

pub chosen-exists : (M : Model) (L : Level) (p : ℕ → ℕ) (a o : ℕ) → 0 < L.vectors → chosen M L p a o < L.vectors
unfolding chosen
chosen-exists M L p a o h = of-in _ _ _ h

-- and covers all states, where some vector does
pub chosen-covers : (M : Model) (L : Level) (p : ℕ → ℕ) (a o : ℕ) → some_covers_all M L ≡ true → (s : ℕ) → s < M.states → L.covers (chosen M L p a o) s ≡ true
unfolding chosen covers_all
chosen-covers M L p a o h s l = every-at M.states _ (of_some _ _ _ h) s l

pub value-meets : (M : Model) (L : Level) (p : ℕ → ℕ) (a : ℕ) → a < M.actions → backup_at M L p a ≤ℤ K · least_value M L p
unfolding least_value least_for
value-meets M L p a la = ≤_trans (ceil-≥ K K-positive (backup_at M L p a)) (·-mono K (largest-max M.actions (least_for M L p) a la))

-- No smaller whole number meets the backup inequality of every action: the least value is one action's backup over K, rounded up. Qed.
pub value-least : (M : Model) (L : Level) (p : ℕ → ℕ) → 0 < M.actions
    → (w : ℤ) → ((a : ℕ) → a < M.actions → backup_at M L p a ≤ℤ K · w) → least_value M L p ≤ℤ w
unfolding least_value least_for
value-least M L p some w h = ceil-least K K-positive _ w (h _ (largest-in _ _ some))

module _ {most : ℕ} (M : Model) (L : Level) (t : ℕ) (T : Valid M) (S : ShapedUpTo most M t L) where
  pub entry-range : (p : ℕ → ℕ) (a : ℕ) → a < M.actions → (s : ℕ) → s < M.states → nat_abs (entry_for M L p a s) ≤ range (suc t)
  unfolding entry_for backed_up
  entry-range p a la s ls =
      floor-range K K-positive (range (suc t)) _
      (backup-range M L t T S a la (chosen M L p a) (λ o b. chosen-exists M L p a o S.some_vectors) s ls)

  pub value-range : (p : ℕ → ℕ) → nat_abs (least_value M L p) ≤ total_to M.states p * range (suc t)
  unfolding least_value least_for
  value-range p =
      ceil-range K K-positive (total_to M.states p * range (suc t)) _ (backup_at-range M L t T S p _ (largest-in _ _ T.some_actions))

  module _ (points : ℕ) (weight : ℕ → ℕ → ℕ) (few : points ≤ max_built)
      (total : (i : ℕ) → i < points → IsPoint M.states (weight i)) where
    -- The built level has the shape of level t + 1.
    -- It has a vector for each state and each point. An entry is a backup over K, rounded down; a corner or
    -- value is the largest of the backups over K, rounded up. Backups lie within K × range (t + 1) times the total of the weights, which is 1 at a
    -- corner; rounding keeps a range with whole ends. Qed.
    pub built-shaped : M.states + points ≤ most → ShapedUpTo most M (suc t) (built M L points weight)
    unfolding built
    built-shaped enough = record {
      some_vectors = omega (arith, T.some_states);
      few_vectors = enough;
      few_points = omega arith;
      action_in = λ v l. action_exists M L _ T.some_actions;
      entry_fits = λ v l s b. entry-range _ _ (action_exists M L _ T.some_actions) s b;
      corner_fits = λ s l. omega (arith, rw (corner-total M.states s l) at (value-range (corner_weight s)));
      value_fits = λ i l. value-range (weight i);
      total = total;
    }

    -- The built level meets its inequalities over level t.
    -- A vector's action and choices are indices of a largest, so they exist, and the vectors chosen cover all states, since some vector does; K times a
    -- backup over K, rounded down, is at most the backup; and K times the largest of the backups over K, rounded up, is at least each of them. Qed.
    pub built-meets : some_covers_all M L ≡ true → Meets M L (built M L points weight)
    unfolding built entry_for backed_up
    built-meets some = record {
      vector = λ v l. record {
        action_exists = action_exists M L _ T.some_actions;
        choice_exists = λ o b. chosen-exists M L _ _ o S.some_vectors;
        covers_reached = λ s b c o lo s' b' above. chosen-covers M L _ _ o some s' b';
        entry_holds = λ s b c. floor-≤ K K-positive _;
      };
      corner = λ s l a la. value-meets M L (corner_weight s) a la;
      point = λ i l a la. value-meets M L (weight i) a la;
    }

-- level 0 lies within the limits of level 0
pub level0-shaped : (M : Model) → Valid M → Shaped M 0 level0
unfolding level0
level0-shaped M v = record {
  some_vectors = omega arith;
  few_vectors = omega arith;
  few_points = omega arith;
  action_in = λ i l. v.some_actions;
  entry_fits = λ i l s b. omega arith;
  corner_fits = λ s l. omega arith;
  value_fits = λ i l. absurd (omega arith);
  total = λ i l. absurd (omega arith);
}

-- ---- ranges grow with the level

pub range_mono : (t t' : ℕ) → t ≤ t' → range t ≤ range t'
unfolding range
range_mono t t' l = NatL.mul-le-mul_left max_reward l

-- a range of an accepted level is at most the hundredth's
pub range-limit : (t : ℕ) → t ≤ max_levels → range t ≤ max_entry
unfolding range
range-limit t l = omega arith

pub shaped-mono : {most : ℕ} (M : Model) (L : Level) (t t' : ℕ) → t ≤ t' → ShapedUpTo most M t L → ShapedUpTo most M t' L
shaped-mono M L t t' l S = record {
  some_vectors = S.some_vectors;
  few_vectors = S.few_vectors;
  few_points = S.few_points;
  action_in = S.action_in;
  entry_fits = λ v h s b. omega (arith, S.entry_fits v h s b, range_mono t t' l);
  corner_fits = λ s h. omega (arith, S.corner_fits s h, range_mono t t' l);
  value_fits = λ i h. NatL.le_trans (S.value_fits i h) (NatL.mul-le-mul_left (total_to M.states (L.weight i)) (range_mono t t' l));
  total = S.total;
}
