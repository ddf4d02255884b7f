-- A partially observable decision process in whole numbers, and the three sums of document 01 over it.
--
--   successor        the weights of the states reached: q(s') for an action and an observation       (20.8 of the source, not normalized)
--   expected_reward   p · R(·,a)                                                                         (20.9)
--   backup           K times what a vector may promise at a state, given the entries that follow it     (20.10)
use Rattle.std.specs.Prelude.{ℕ, ◌*◌, ◌≤◌, ◌<◌, ◌≡◌, ℤ, nat_abs, ◌+ℤ◌}
use Rattle.integers.specs.Whole.{◌·◌, sum_to, total_to, floor_div}
use Rattle.tables.specs.Limits.{max_states, max_actions, max_observations, one, max_reward, K}

-- states, actions and observations are numbered from 0; probabilities and discount are thousandths, rewards ticks
pub record Model : Type 0 where
  pub states : ℕ
  pub actions : ℕ
  pub observations : ℕ
  pub discount : ℕ
  pub transition : ℕ → ℕ → ℕ → ℕ  -- T(s,a,s')
  pub observation : ℕ → ℕ → ℕ → ℕ  -- O(a,s',o): at the state reached
  pub reward : ℕ → ℕ → ℤ  -- R(s,a)

-- the sum over s of p(s) × T(s,a,s') × O(a,s',o)
unfoldable pub successor : Model → (ℕ → ℕ) → ℕ → ℕ → ℕ → ℕ
successor M p a o s' = total_to M.states (λ s. p s * M.transition s a s' * M.observation a s' o)

-- the sum over s of p(s) × R(s,a)
unfoldable pub expected_reward : Model → (ℕ → ℕ) → ℕ → ℤ
expected_reward M p a = sum_to M.states (λ s. p s · M.reward s a)

-- K × R(s,a) + g × the sum over s' and o of T(s,a,s') × O(a,s',o) × (entry at s' of what follows o)
unfoldable pub backup : Model → ℕ → (ℕ → ℕ → ℤ) → ℕ → ℤ
backup M a next s =
    K · M.reward s a
    +ℤ M.discount · sum_to M.states (λ s'. sum_to M.observations (λ o. (M.transition s a s' * M.observation a s' o) · next o s'))

-- the backup over K, rounded towards minus infinity
unfoldable pub backed_up : Model → ℕ → (ℕ → ℕ → ℤ) → ℕ → ℤ
backed_up M a next s = floor_div (backup M a next s) K

-- what tables that are not refused have
pub record Valid (M : Model) : Type 0 where
  pub some_states : 0 < M.states
  pub few_states : M.states ≤ max_states
  pub some_actions : 0 < M.actions
  pub few_actions : M.actions ≤ max_actions
  pub some_observations : 0 < M.observations
  pub few_observations : M.observations ≤ max_observations
  pub discount_limit : M.discount ≤ one
  pub transition_limit : (a : ℕ) → a < M.actions → (s : ℕ) → s < M.states → (s' : ℕ) → s' < M.states → M.transition s a s' ≤ one
  pub observation_limit : (a : ℕ) → a < M.actions → (s' : ℕ) → s' < M.states → (o : ℕ) → o < M.observations → M.observation a s' o ≤ one
  pub reward_limit : (a : ℕ) → a < M.actions → (s : ℕ) → s < M.states → nat_abs (M.reward s a) ≤ max_reward
  pub transition_row : (a : ℕ) → a < M.actions → (s : ℕ) → s < M.states → total_to M.states (λ s'. M.transition s a s') ≡ one
  pub observation_row : (a : ℕ) → a < M.actions → (s' : ℕ) → s' < M.states → total_to M.observations (λ o. M.observation a s' o) ≡ one
