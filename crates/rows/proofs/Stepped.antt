-- A step of the rows over storage is the model's, and nothing overflows on the way. Assumes nothing.
--
--   ready, seen                          what tables that are not refused and rows within a level's range have
--   sums-fit, parts-fit, ..              the sums of the informed step fit 64 bits
--   highest-limit, tops_within           those of QMDP
--   informed-made, qmdp-made             what is worked out is the model's
--   action_in, state_in                  the action and the state of a place
--   rows-pasted                          rows that were worked out apart, over those that stand
use Rattle.integers.proofs.Kit.{◌≡◌, ◌∙◌, refl, ap, sym, List, ℕ, ◌≤◌, ◌<◌, ◌+◌, ◌*◌, ◌^◌, ◌/◌, ◌%◌, arith, length, get_or, paste, ℤ, pos, nat_abs, ◌+ℤ◌}
use native.Mathlib.Nat as NatL
use Rattle.integers.specs.Whole.{◌·◌, sum_to, ceil_div, Below, Within}
use Rattle.integers.specs.Cells.{padded, laid_rows}
use Rattle.integers.proofs.Order.{·-·}
use Rattle.integers.proofs.Lists.{padded-at, filled-below, filled_within, laid-at, laid-length, laid-cong, paste-laid}
use Rattle.integers.proofs.Sizes.{abs-times, times-bound, sum_bound}
use Rattle.integers.proofs.Sums.{sum-cong}
use Rattle.tables.specs.declared.Counts.{Counts}
use Rattle.tables.specs.Limits.{max_states, max_actions, max_observations, max_levels, one, max_entry, K}
use Rattle.tables.specs.Model.{Valid}
use Rattle.tables.specs.Storage.{transition_in, observation_in, reward_in, weight_in, entry_in, model_in}
use Rattle.tables.specs.Steps.{Stored, EntriesFit}
use Rattle.sums.specs.Steps.{seen_in, onward_in, backup_in, TransitionsFit, ObservationsFit, RewardsFit, foreseen_limit, moved_limit}
use Rattle.sums.proofs.Regroup.{transitions-fit, observations-fit, rewards-fit}
use Rattle.plans.specs.Limits.{max_reached, range}
use Rattle.plans.specs.Level.{product}
use Rattle.plans.specs.Rows.{highest, best_row, informed_backup, informed_next, qmdp_backup, qmdp_next}
use Rattle.plans.proofs.Agreement.{product-cong}
use Rattle.plans.proofs.Built.{range-limit}
use Rattle.plans.proofs.Rows.{RowsWithin, highest-ind, highest-cong}
use Rattle.rows.specs.Steps.{best_row_in, top_in, Ready, Seen}

-- ---- what tables that are not refused have
module _ (c : Counts) (T O : List ℕ) (R : List ℤ) (valid : Valid (model_in c T O R)) (stored : Stored c T O R) where
  pub ready : (rows : List ℤ) (t : ℕ) → t ≤ max_levels → c.actions * c.states ≤ length rows
      → RowsWithin (model_in c T O R) (range t) (entry_in c.states rows) → Ready c T R rows
  ready rows t few long within = record {
    some_states = valid.some_states;
    few_states = valid.few_states;
    some_actions = valid.some_actions;
    few_actions = valid.few_actions;
    discount_limit = valid.discount_limit;
    transitions = transitions-fit c T O R valid stored;
    rewards = rewards-fit c T O R valid stored;
    rows_fit = record {
      few = omega (arith, valid.few_actions);
      stored = long;
      entry = λ a l s b. omega (arith, within a l s b, range-limit t few);
    };
  }

  pub seen : Seen c O
  seen = record { few_observations = valid.few_observations; observations = observations-fit c T O R valid stored }

-- ---- how large the sums are

-- the largest product of a row with what is seen
abbrev pub best_limit : ℕ
best_limit = max_states * (one * one * max_entry)

module _ {n k m a : ℕ} {observation u : List ℕ} {rows : List ℤ} (few : n ≤ max_states) (light : Below one n u)
    (fit : ObservationsFit n k observation a) (rows_fit : EntriesFit n m rows) where
  seen-limit : (o : ℕ) → o < k → (s : ℕ) → s < n → seen_in n k observation u a o s ≤ one * one
  seen-limit o lo s ls = NatL.mul-le-mul (light.below s ls) (fit.observation s ls o lo)

  pub moved-below : Below moved_limit n u
  moved-below = record { long = light.long; below = λ s l. omega (arith, light.below s l) }

  pub reached-below : (o : ℕ) → o < k → {q : List ℕ} → q ≡ padded 0 max_states n (seen_in n k observation u a o) → Below max_reached n q
  reached-below o lo e = filled-below max_states _ e few (λ s l. omega (arith, seen-limit o lo s l))

  pub best-limit : 0 < m → (o : ℕ) → o < k → nat_abs (best_row_in n k m observation u rows a o) ≤ best_limit
  unfolding best_row_in product
  best-limit some o lo =
      highest-ind (λ z. nat_abs z ≤ best_limit) m _ some
      (λ v lv. omega (arith, sum_bound n (one * one * max_entry) (λ s. q s · entry_in n rows v s) (term v lv)))
    where
      q : ℕ → ℕ
      q s = get_or (padded 0 max_states n (seen_in n k observation u a o)) s 0

      term : (v : ℕ) → v < m → (s : ℕ) → s < n → nat_abs (q s · entry_in n rows v s) ≤ one * one * max_entry
      term v lv s l =
          times-bound {W = one * one} (q s) (entry_in n rows v s) (rw (padded-at 0 max_states n (seen_in n k observation u a o) s 0 l) (seen-limit o lo s l))
          (rows_fit.entry v lv s l)

  -- the sum so far, and one more
  pub ahead-limit : 0 < m → k ≤ max_observations → (j : ℕ) → j ≤ k
      → nat_abs (sum_to j (best_row_in n k m observation u rows a)) ≤ max_observations * best_limit
  ahead-limit some less j l = omega (arith, sum_bound j best_limit (best_row_in n k m observation u rows a) (λ o lo. best-limit some o (omega arith)))

  pub sums-fit : 0 < m → k ≤ max_observations → (o : ℕ) → o < k → {sum here : ℤ} → sum ≡ sum_to o (best_row_in n k m observation u rows a)
      → here ≡ best_row_in n k m observation u rows a o → nat_abs sum + nat_abs here < 2 ^ 63
  sums-fit some less o l e h = rw (e, h) (omega (arith, ahead-limit some less o (omega arith), best-limit some o l))

  -- the two parts of a backup
  pub parts-fit : 0 < m → k ≤ max_observations → {g s : ℕ} {reward : List ℤ} → RewardsFit n reward a → s < n → g ≤ one
      → {now later : ℤ} → now ≡ K · reward_in n reward s a → later ≡ sum_to k (best_row_in n k m observation u rows a)
      → nat_abs now + g * nat_abs later < 2 ^ 63
  unfolding K
  parts-fit some less {g} {s} {reward} small l g-limit e h =
      rw (e, h) (omega (
        arith,
        abs-times K (reward_in n reward s a),
        small.reward s l,
        NatL.mul-le-mul g-limit (ahead-limit some less k (NatL.le_refl k)),
      ))

module _ {n m : ℕ} {rows : List ℤ} (fit : EntriesFit n m rows) (some : 0 < m) where
  pub highest-limit : (s : ℕ) → s < n → nat_abs (highest m (λ a. entry_in n rows a s)) ≤ max_entry
  highest-limit s l = highest-ind (λ z. nat_abs z ≤ max_entry) m (λ a. entry_in n rows a s) some (λ a la. fit.entry a la s l)

  pub tops_within : n ≤ max_states → {f : List ℤ} → f ≡ padded (pos 0) max_states n (top_in n m rows) → Within foreseen_limit n f
  tops_within few e = filled_within max_states _ e few (λ s l. omega (arith, abs-times one (highest m (λ a. entry_in n rows a s)), highest-limit s l))

-- what moved to each state from one
pub moves-below : {n a s : ℕ} {cells u : List ℕ} → n ≤ max_states → TransitionsFit n cells a → s < n
    → u ≡ padded 0 max_states n (transition_in n cells s a) → Below one n u
moves-below few fit l e = filled-below max_states _ e few (fit.transition _ l)

pub now-fits : {n a s : ℕ} {reward : List ℤ} → RewardsFit n reward a → s < n → K * nat_abs (reward_in n reward s a) < 2 ^ 63
unfolding K
now-fits fit l = omega (arith, fit.reward _ l)

-- ---- to the model's rows
module _ (c : Counts) (T O : List ℕ) (R rows : List ℤ) (a s : ℕ) where
  abbrev F : ℕ → ℕ → ℤ
  F = entry_in c.states rows

  pub informed-made : 0 < c.actions → {u : List ℕ} → u ≡ padded 0 max_states c.states (transition_in c.states T s a)
      → {later : ℤ} → later ≡ sum_to c.observations (best_row_in c.states c.observations c.actions O u rows a)
      → ceil_div (K · reward_in c.states R s a +ℤ c.discount · later) K ≡ informed_next (model_in c T O R) F a s
  unfolding informed_next informed_backup best_row_in best_row
  informed-made some {u} moved {later} e =
      ap (λ (z : ℤ). ceil_div (K · reward_in c.states R s a +ℤ c.discount · z) K) (e ∙ sum-cong c.observations _ _ (λ o l.
      highest-cong c.actions _ _ some (λ v lv. product-cong c.states _ _ (F v) (F v) (weight o) (λ x b. refl))))
    where
      weight : (o x : ℕ) → x < c.states → weight_in (padded 0 max_states c.states (seen_in c.states c.observations O u a o)) x
          ≡ transition_in c.states T s a x * observation_in c.states c.observations O a x o
      weight o x b =
          padded-at 0 max_states c.states (seen_in c.states c.observations O u a o) x 0 b
          ∙ ap (λ (y : ℕ). y * observation_in c.states c.observations O a x o) (rw moved (padded-at 0 max_states c.states _ x 0 b))

  pub qmdp-made : {f : List ℤ} → f ≡ padded (pos 0) max_states c.states (top_in c.states c.actions rows)
      → ceil_div (backup_in c.states c.discount T R f a s) K ≡ qmdp_next (model_in c T O R) F a s
  unfolding qmdp_next qmdp_backup backup_in onward_in
  qmdp-made {f} e =
      ap (λ (z : ℤ). ceil_div (K · reward_in c.states R s a +ℤ c.discount · z) K) (sum-cong c.states _ _ (λ x b.
      ap (λ (z : ℤ). transition_in c.states T s a x · z) (rw e (padded-at (pos 0) max_states c.states _ x (pos 0) b))
      ∙ sym (·-· (transition_in c.states T s a x) one (highest c.actions (λ v. F v x)))))

-- ---- the action and the state of a place
module _ {c : Counts} {T : List ℕ} {R rows : List ℤ} (h : Ready c T R rows) where
  pub action_in : {i : ℕ} → i < c.actions * c.states → i / c.states < c.actions
  action_in l = (NatL.div-lt_iff_lt-mul h.some_states).1 l

  pub state_in : (i : ℕ) → i % c.states < c.states
  state_in i = NatL.mod-lt i h.some_states

  pub cells-few : c.actions * c.states ≤ max_actions * max_states
  cells-few = NatL.mul-le-mul h.few_actions h.few_states

-- ---- rows that were worked out apart, pasted over those that stand
pub rows-pasted : (m n : ℕ) (F : ℕ → ℕ → ℤ) (xs zs : List ℤ) {row : List ℤ} → row ≡ laid_rows m n F zs → m * n ≤ length zs
    → paste xs 0 row (m * n) ≡ laid_rows m n F xs
unfolding laid_rows
rows-pasted m n F xs zs {row} e long =
    let f : ℕ → ℤ = λ i. F (i / n) (i % n) in
    paste-laid (m * n) xs row (pos 0) (rw (e, laid-length (m * n) f zs long) long)
    ∙ laid-cong (m * n) (λ i. get_or row i (pos 0)) f xs (λ i l. rw e (laid-at (m * n) f zs i (pos 0) l))
