-- Informed rows and QMDP: no plan earns more than the row of its first action, no informed row is above QMDP's, both stay within the range of their level,
-- and only entries below the counts are read. Assumes nothing.
--
--   highest-..                          the largest as a loop takes it
--   rows-0, rows_next                   what no plan passes, level by level
--   rows-roof                           the same at weights: the best row's product
--   informed-range, qmdp-range, ..      the ranges of the levels
--   best_row-cong, informed-cong, ..     rows that agree below the counts
use mathlib.Core.Path.{◌≡◌, refl, sym, ◌∙◌, ap}
use Prim.Native.Nat.{ℕ, suc, ◌+◌, ◌*◌, ◌^◌, ◌≤◌, ◌<◌}
use native.Mathlib.Nat as NatL
use native.Mathlib.Omega.{arith}
use lib.IntN.{ℤ, pos, nat_abs, ◌+ℤ◌}
use mathlib.Core.Bool.{true, false}
use lib.Signed.{◌≤ℤ◌, lt_z}
use Rattle.integers.specs.Whole.{◌·◌, sum_to, total_to, ceil_div}
use Rattle.integers.specs.Search.{first_largest}
use Rattle.integers.proofs.Order.{≤-refl, ≤-of, ≤_trans, add-mono, ·-add, ·-swap, ·-zero, ·-mono}
use Rattle.integers.proofs.Sums.{sum-cong, sum_mono, sum-swap, total-·, total-mul, total-mul-right, total-swap, ≤-·-sum}
use Rattle.integers.proofs.Sizes.{times-bound, sum-weighed}
use Rattle.integers.proofs.Rounding.{ceil-≥, ceil-least, ceil-range}
use Rattle.integers.proofs.Searches.{largest-in, largest-max, largest-cong, largest-first, largest-later, largest-same}
use Rattle.tables.specs.Limits.{one, K}
use Rattle.tables.specs.Model.{Model, Valid}
use Rattle.plans.specs.Limits.{range}
use Rattle.plans.specs.Plan.{Plan, stop, step, Fits, Opens, earns, earns_at}
use Rattle.plans.specs.Level.{product}
use Rattle.plans.specs.Rows.{highest, best_row, rows0, informed_backup, informed_next, qmdp_backup, qmdp_next}
use Rattle.plans.proofs.Certified.{RowsCertified}
use Rattle.plans.proofs.Floor.{pow-·}
use Rattle.plans.proofs.Agreement.{product-cong}
use Rattle.plans.proofs.Built.{K-positive, chances, next-range}

-- ---- the largest of some
pub highest-above : (n : ℕ) (f : ℕ → ℤ) (i : ℕ) → i < n → f i ≤ℤ highest n f
unfolding highest
highest-above n f i l = largest-max n f i l

-- what holds of each holds of the largest
pub highest-ind : (P : ℤ → Type 0) (n : ℕ) (f : ℕ → ℤ) → 0 < n → ((i : ℕ) → i < n → P (f i)) → P (highest n f)
unfolding highest
highest-ind P n f some h = h (first_largest n f) (largest-in n f some)

pub highest-cong : (n : ℕ) (f g : ℕ → ℤ) → 0 < n → ((i : ℕ) → i < n → f i ≡ g i) → highest n f ≡ highest n g
unfolding highest
highest-cong n f g some h = rw (largest-cong n f g some h) (h (first_largest n g) (largest-in n g some))

-- as a loop takes it: the largest so far, and what is met next
pub highest-first : (f : ℕ → ℤ) → f 0 ≡ highest 1 f
unfolding highest
highest-first f = ap f (sym (largest-first f))

module _ (f : ℕ → ℤ) (n : ℕ) {most here : ℤ} (so_far : most ≡ highest n f) (met : here ≡ f n) where
  pub highest-later : lt_z most here ≡ true → here ≡ highest (n + 1) f
  unfolding highest
  highest-later t = met ∙ ap f (sym (largest-later n f (rw (← so_far, ← met) t)))

  pub highest-same : lt_z most here ≡ false → most ≡ highest (n + 1) f
  unfolding highest
  highest-same t = so_far ∙ ap f (sym (largest-same n f (rw (← so_far, ← met) t)))

ceil-mono : {a b : ℤ} → a ≤ℤ b → ceil_div a K ≤ℤ ceil_div b K
ceil-mono {a} {b} h = ceil-least K K-positive a _ (≤_trans h (ceil-≥ K K-positive b))

-- ---- what no plan passes
-- an action with which a plan opens: any, where it has no steps
first : {t : ℕ} → Plan t → ℕ
first stop = 0
first (step a next) = a

first-exists : (M : Model) {t : ℕ} → 0 < M.actions → (π : Plan t) → Fits M π → first π < M.actions
unfolding Fits first
first-exists M some stop f = some
first-exists M some (step a next) f = f.0

first-opens : {t : ℕ} (π : Plan t) → Opens π (first π)
unfolding Opens first
first-opens stop = tt
first-opens (step a next) = refl

-- No t-step plan that fits the model earns more, at any weights, than K^t times the best row's product.
-- A plan opens with some action of the model; one of no steps, with any. So what it earns from each state is at most K^t times that action's row; the
-- sum with the weights is at most K^t times the row's product, and the best row's is no smaller. Qed.
pub rows-roof : {M : Model} {t : ℕ} {F Q : ℕ → ℕ → ℤ} → 0 < M.actions → RowsCertified M t F Q
    → (π : Plan t) → Fits M π → (b : ℕ → ℕ) → earns_at M π b ≤ℤ (K ^ t) · best_row M F b
unfolding earns_at best_row product
rows-roof {M} {t} {F} some c π f b =
    ≤_trans (≤-·-sum (K ^ t) M.states (λ s. b s · F (first π) s) _ (λ s l. rw ·-swap (·-mono (b s) (c.row π f (first π) (first-opens π) s l))))
    (·-mono (K ^ t) (highest-above M.actions (λ a. product M.states b (F a)) (first π) (first-exists M some π f)))

-- at level 0 rows of zeros are what the plan of no steps earns
pub rows-0 : (M : Model) → RowsCertified M 0 rows0 rows0
unfolding earns
rows-0 M = record { row = row; below = λ a l s ls. ≤-refl (pos 0) }
  where
    row : (π : Plan 0) → Fits M π → (a : ℕ) → Opens π a → (s : ℕ) → s < M.states → earns M π s ≤ℤ (K ^ 0) · pos 0
    row stop f a o s l = ≤-of (sym (·-zero (K ^ 0)))

-- the chances of reaching s' from s by a and seeing o there
abbrev reached : Model → ℕ → ℕ → ℕ → ℕ → ℕ
reached M s a o s' = M.transition s a s' * M.observation a s' o

module _ {M : Model} {t : ℕ} {F Q : ℕ → ℕ → ℤ} (T : Valid M) (c : RowsCertified M t F Q) where
  -- what follows a state and an action, by observation first
  ahead : (a s : ℕ) (next : ℕ → Plan t) → ((o : ℕ) → o < M.observations → Fits M (next o))
      → sum_to M.states (λ s'. sum_to M.observations (λ o. reached M s a o s' · earns M (next o) s'))
      ≤ℤ (K ^ t) · sum_to M.observations (λ o. best_row M F (reached M s a o))
  unfolding earns_at
  ahead a s next f =
      rw (sum-swap M.states M.observations (λ s' o. reached M s a o s' · earns M (next o) s'))
      (≤-·-sum _ _ _ _ (λ o l. rows-roof T.some_actions c (next o) (f o l) (reached M s a o)))

  backup-above : (a s : ℕ) (next : ℕ → Plan t) → ((o : ℕ) → o < M.observations → Fits M (next o))
      → earns M (step a next) s ≤ℤ (K ^ t) · informed_backup M F a s
  unfolding earns informed_backup
  backup-above a s next f =
      rw ·-add (add-mono (≤-of (sym (pow-· t (M.reward s a)))) (rw (·-swap (K ^ t) M.discount) (·-mono M.discount (ahead a s next f))))

  row_next : (π : Plan (suc t)) → Fits M π → (a : ℕ) → Opens π a → (s : ℕ) → s < M.states → earns M π s ≤ℤ (K ^ suc t) · informed_next M F a s
  unfolding Fits Opens informed_next
  row_next (step b next) f a e s l =
      rw (← e) (≤_trans (backup-above b s next f.1) (≤_trans (·-mono (K ^ t) (ceil-≥ K K-positive _)) (≤-of (pow-· t _))))

  -- the largest of all at a state
  top : ℕ → ℤ
  top s' = highest M.actions (λ a'. Q a' s')

  best-below : (q : ℕ → ℕ) → best_row M F q ≤ℤ product M.states q top
  unfolding best_row product top
  best-below q =
      highest-ind (λ x. x ≤ℤ sum_to M.states (λ s. q s · top s)) M.actions _ T.some_actions
      (λ a l. sum_mono M.states _ _ (λ s ls. ·-mono (q s) (≤_trans (c.below a l s ls) (highest-above M.actions (λ a'. Q a' s) a l))))

  -- with the observation forgotten: its row totals one
  unseen : (a : ℕ) → a < M.actions → (s : ℕ)
      → sum_to M.observations (λ o. product M.states (reached M s a o) top) ≡ sum_to M.states (λ s'. (M.transition s a s' * one) · top s')
  unfolding product
  unseen a la s =
      sum-swap M.observations M.states (λ o s'. reached M s a o s' · top s')
      ∙ sum-cong M.states _ _ (λ s' l. sym (total-· M.observations (λ o. reached M s a o s') (top s'))
      ∙ ap (λ (x : ℕ). x · top s') (total-mul M.observations (M.transition s a s') (M.observation a s')
      ∙ ap (λ (x : ℕ). M.transition s a s' * x) (T.observation_row a la s' l)))

  below_next : (a : ℕ) → a < M.actions → (s : ℕ) → s < M.states → informed_next M F a s ≤ℤ qmdp_next M Q a s
  unfolding informed_next informed_backup qmdp_next qmdp_backup top
  below_next a la s l =
      ceil-mono (add-mono (≤-refl (K · M.reward s a)) (·-mono M.discount
      (≤_trans (sum_mono M.observations _ _ (λ o b. best-below (reached M s a o))) (≤-of (unseen a la s)))))

  -- Rows a level above certified rows are certified with one step more.
  -- A plan with action a earns from s: K^(t+1) × R(s,a), and g times the sum over o of what its plan for o earns at the weights T(s,a,·) × O(a,·,o), which
  -- is at most K^t × the best row's product there (`rows-roof`). That is K^t × the informed backup, hence at most K^(t+1) × the backup over K, rounded up.
  -- And F ≤ Q: at those weights the best row's product is at most that of the largest Q at each state reached. The sum over o of these is the sum over s'
  -- of T(s,a,s') × 1,000 × the largest Q at s', since the row of observations totals 1,000. Rounding up is monotone. Qed.
  pub rows_next : RowsCertified M (suc t) (informed_next M F) (qmdp_next M Q)
  rows_next = record { row = row_next; below = below_next }

-- ---- ranges
-- entries below the counts lie within a range
abbrev pub RowsWithin : Model → ℕ → (ℕ → ℕ → ℤ) → Type 0
RowsWithin M r F = (a : ℕ) → a < M.actions → (s : ℕ) → s < M.states → nat_abs (F a s) ≤ r

pub best_row-range : (M : Model) (r : ℕ) (F : ℕ → ℕ → ℤ) → 0 < M.actions → RowsWithin M r F → (q : ℕ → ℕ)
    → nat_abs (best_row M F q) ≤ total_to M.states q * r
unfolding best_row product
best_row-range M r F some h q =
    highest-ind (λ x. nat_abs x ≤ total_to M.states q * r) M.actions _ some
    (λ a l. sum-weighed M.states r q _ (λ s ls. times-bound (q s) (F a s) (NatL.le_refl (q s)) (h a l s ls)))

-- A row above rows within range t lies within range (t + 1).
-- The sum that follows has weights that total one × one, of numbers within range t: the best row's products, or the largest at each state reached. So the
-- backup lies within K × range (t + 1), as in `backup-within`, and rounding up keeps a range with whole ends. Qed.
module _ {M : Model} (T : Valid M) (t : ℕ) (F : ℕ → ℕ → ℤ) (h : RowsWithin M (range t) F) where
  -- of a backup whose sum weighs numbers by weights that total one × one
  rounded-range : (a : ℕ) → a < M.actions → (s : ℕ) → s < M.states → (x : ℤ) (w : ℕ) → nat_abs x ≤ w * range t → w ≡ one * one
      → nat_abs (ceil_div (K · M.reward s a +ℤ M.discount · x) K) ≤ range (suc t)
  rounded-range a la s ls x w hx e =
      ceil-range K K-positive (range (suc t)) _ (omega (
        arith,
        next-range M.discount 1 t (M.reward s a) x T.discount_limit
            (omega (arith, T.reward_limit a la s ls)) (rw e at hx),
      ))

  pub informed-range : RowsWithin M (range (suc t)) (informed_next M F)
  unfolding informed_next informed_backup
  informed-range a la s ls =
      rounded-range a la s ls _ _ (sum-weighed M.observations (range t) (λ o. total_to M.states (reached M s a o)) _
      (λ o l. best_row-range M (range t) F T.some_actions h (reached M s a o)))
      (total-swap M.observations M.states (λ o s'. reached M s a o s') ∙ chances M T a la s ls)

  pub qmdp-range : RowsWithin M (range (suc t)) (qmdp_next M F)
  unfolding qmdp_next qmdp_backup
  qmdp-range a la s ls =
      rounded-range a la s ls _ _ (sum-weighed M.states (range t) (λ s'. M.transition s a s' * one) _ (λ s' l. times-bound _ _ (NatL.le_refl _)
      (highest-ind (λ x. nat_abs x ≤ range t) M.actions (λ a'. F a' s') T.some_actions (λ a' l'. h a' l' s' l))))
      (total-mul-right M.states one (M.transition s a) ∙ ap (λ (x : ℕ). x * one) (T.transition_row a la s ls))

-- ---- rows that agree
-- Sums run over states and observations, the largest is taken over actions: only entries below the counts are read. Qed.
module _ (M : Model) (some : 0 < M.actions) (F F' : ℕ → ℕ → ℤ)
    (same : (a : ℕ) → a < M.actions → (s : ℕ) → s < M.states → F a s ≡ F' a s) where
  pub best_row-cong : (q : ℕ → ℕ) → best_row M F q ≡ best_row M F' q
  unfolding best_row
  best_row-cong q = highest-cong M.actions _ _ some (λ a l. product-cong M.states q q (F a) (F' a) (λ s ls. refl) (same a l))

  pub informed-cong : (a s : ℕ) → informed_next M F a s ≡ informed_next M F' a s
  unfolding informed_next informed_backup
  informed-cong a s =
      ap (λ (x : ℤ). ceil_div (K · M.reward s a +ℤ M.discount · x) K) (sum-cong M.observations _ _ (λ o l. best_row-cong _))

  pub qmdp-cong : (a s : ℕ) → qmdp_next M F a s ≡ qmdp_next M F' a s
  unfolding qmdp_next qmdp_backup
  qmdp-cong a s =
      ap (λ (x : ℤ). ceil_div (K · M.reward s a +ℤ M.discount · x) K) (sum-cong M.states _ _
      (λ s' l. ap (λ (x : ℤ). (M.transition s a s' * one) · x) (highest-cong M.actions _ _ some (λ a' l'. same a' l' s' l))))
