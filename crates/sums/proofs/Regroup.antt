-- The partial sums of storage: how they join to the model's sums, and how large they are. Assumes nothing.
--
-- In order: to the model's sums; how large they are.
use Rattle.integers.proofs.Kit.{◌≡◌, ◌∙◌, refl, ap, sym, List, ℕ, ◌≤◌, ◌<◌, ◌+◌, ◌*◌, ◌^◌, arith, mul-le-mul, mul-le-mul_right, get_or, ℤ, pos, nat_abs, ◌+ℤ◌}
use Rattle.integers.specs.Whole.{◌·◌, sum_to, total_to, Below, Within}
use Rattle.integers.proofs.Sums.{sum-cong, sum-spread, total-bound, total-mul-right}
use Rattle.integers.proofs.Terms.{Terms, terms-limit}
use Rattle.integers.proofs.Sizes.{abs-times}
use Rattle.tables.specs.declared.Counts.{Counts}
use Rattle.tables.specs.Limits.{max_states, max_observations, one, max_weight, max_entry, K}
use Rattle.tables.specs.Model.{Valid, successor, expected_reward, backup}
use Rattle.tables.specs.Storage.{transition_in, observation_in, reward_in, weight_in, model_in}
use Rattle.tables.specs.Steps.{rows_to, Stored}
use Rattle.sums.specs.Steps.{moved_in, expected_in, chosen_in, foreseen_in, onward_in, backup_in, TransitionsFit, ObservationsFit}
use Rattle.sums.specs.Steps.{RewardsFit, ChosenFit, moved_limit, foreseen_limit, onward_limit}

-- ---- to the model's sums

module _ (c : Counts) (T O : List ℕ) (R : List ℤ) where
  -- what moved to a state, times the observation there, is the successor's weight
  pub moved-successor : (p : List ℕ) (a o s' : ℕ)
      → moved_in c.states T p a s' * observation_in c.states c.observations O a s' o
      ≡ successor (model_in c T O R) (weight_in p) a o s'
  unfolding moved_in successor
  moved-successor p a o s' = sym (total-mul-right c.states _ _)

  -- the expected reward is the model's
  pub expected-is : (p : List ℕ) (a : ℕ) → expected_in c.states R p a ≡ expected_reward (model_in c T O R) (weight_in p) a
  unfolding expected_in expected_reward
  expected-is p a = refl

  -- with the sum over observations at each state, the backup is the model's
  pub backup-foreseen : (next : ℕ → ℕ → ℤ) (f : List ℤ) (a s : ℕ)
      → ((s' : ℕ) → s' < c.states
      → get_or f s' (pos 0) ≡ sum_to c.observations (λ o. observation_in c.states c.observations O a s' o · next o s'))
      → backup_in c.states c.discount T R f a s ≡ backup (model_in c T O R) a next s
  unfolding backup_in onward_in backup
  backup-foreseen next f a s h =
      ap (λ (z : ℤ). K · reward_in c.states R s a +ℤ c.discount · z)
      (sum-cong c.states _ _ (λ s' l. ap (λ (z : ℤ). transition_in c.states T s a s' · z) (h s' l)
      ∙ sum-spread _ c.observations (observation_in c.states c.observations O a s') (λ o. next o s')))

  -- so it is with what is foreseen by the vectors chosen
  pub backup-regrouped : (masks : List ℕ) (entries : List ℤ) (choices : List ℕ) (v : ℕ) (f : List ℤ) (a s : ℕ)
      → ((s' : ℕ) → s' < c.states → get_or f s' (pos 0) ≡ foreseen_in c.states c.observations O masks entries choices v a s')
      → backup_in c.states c.discount T R f a s ≡ backup (model_in c T O R) a (chosen_in c.states c.observations masks entries choices v) s
  unfolding foreseen_in
  backup-regrouped masks entries choices v f a s h = backup-foreseen (chosen_in c.states c.observations masks entries choices v) f a s h

-- ---- how large they are

module _ {n a s' : ℕ} {cells p : List ℕ} (fit : TransitionsFit n cells a) (light : Below max_weight n p) (reached : s' < n) (few : n ≤ max_states) where
  -- what moved to a state from the first ones is within its limit
  pub moved-part : (i : ℕ) → i ≤ n → total_to i (λ s. weight_in p s * transition_in n cells s a s') ≤ moved_limit
  moved-part i l =
      omega (
        arith,
        total-bound i (max_weight * one) (λ s. weight_in p s * transition_in n cells s a s')
            (λ s h. mul-le-mul (light.below s (omega arith)) (fit.transition s (omega arith) s' reached)),
      )

  -- and what moved to it from all
  pub moved-limit : moved_in n cells p a s' ≤ moved_limit
  unfolding moved_in
  moved-limit = moved-part n (omega arith)

module _ {n k v a : ℕ} {cells masks choices : List ℕ} {entries : List ℤ} (fit : ObservationsFit n k cells a)
    (follow : ChosenFit n k masks entries choices v) where
  -- what is foreseen at a state is made of terms within the limits
  pub foreseen-terms : {s' : ℕ} → s' < n → Terms k one max_entry (observation_in n k cells a s') (λ o. chosen_in n k masks entries choices v o s')
  foreseen-terms {s'} l = record { weights = fit.observation s' l; values = λ o h. follow.entries_fit.entry _ (follow.vector o h) s' l }

  -- so it is within its limit
  pub foreseen-limit : k ≤ max_observations → {s' : ℕ} → s' < n → nat_abs (foreseen_in n k cells masks entries choices v a s') ≤ foreseen_limit
  unfolding foreseen_in
  foreseen-limit few l = omega (arith, terms-limit (foreseen-terms l) k (omega arith))

module _ {n a s : ℕ} {cells : List ℕ} {f : List ℤ} (fit : TransitionsFit n cells a) (within : Within foreseen_limit n f) (start : s < n) where
  -- the sum onward from a state is made of terms within the limits
  pub onward-terms : Terms n one foreseen_limit (transition_in n cells s a) (λ s'. get_or f s' (pos 0))
  onward-terms = record { weights = fit.transition s start; values = within.within }

  -- so it is within its limit
  pub onward-limit : n ≤ max_states → nat_abs (onward_in n cells f s a) ≤ onward_limit
  unfolding onward_in
  onward-limit few = omega (arith, terms-limit onward-terms n (omega arith))

-- the two parts of a backup fit 64 bits together
pub backup-fits : {n a s g : ℕ} {rewards : List ℤ} (later : ℤ) → RewardsFit n rewards a → s < n → g ≤ one → nat_abs later ≤ onward_limit
    → nat_abs (K · reward_in n rewards s a) + g * nat_abs later < 2 ^ 63
unfolding K
backup-fits {n} {a} {s} {rewards} later small start less few =
    omega (arith, abs-times K (reward_in n rewards s a), small.reward s start, mul-le-mul less few)

module _ (c : Counts) (T O : List ℕ) (R : List ℤ) (valid : Valid (model_in c T O R)) (stored : Stored c T O R) (a : ℕ) (l : a < c.actions) where
  -- the rows of the blocks up to an action are among those of all
  rows-to : rows_to c.states a ≤ c.actions * c.states
  rows-to = mul-le-mul_right c.states (let h : a + 1 ≤ c.actions = omega arith in h)

  -- of valid tables, an action's transitions are within the limits
  pub transitions-fit : TransitionsFit c.states T a
  transitions-fit = record { stored = omega (arith, mul-le-mul_right c.states rows-to, stored.transitions); transition = valid.transition_limit a l }

  -- and its observations
  pub observations-fit : ObservationsFit c.states c.observations O a
  observations-fit = record { stored = omega (arith, mul-le-mul_right c.observations rows-to, stored.observed); observation = valid.observation_limit a l }

  -- and its rewards
  pub rewards-fit : RewardsFit c.states R a
  rewards-fit = record { stored = omega (arith, rows-to, stored.rewards); reward = valid.reward_limit a l }
