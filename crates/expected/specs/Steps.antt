-- What the code works out on the way, and what keeps it within the limits and the slices.
use Rattle.std.specs.Prelude.{ℕ, ◌*◌, ◌≤◌, ◌<◌, List, length, ℤ, nat_abs}
use Rattle.integers.specs.Whole.{◌·◌, sum_to}
use Rattle.tables.specs.declared.Counts.{Counts}
use Rattle.tables.specs.Limits.{max_converted, max_actions, max_observations, one, max_reward}
use Rattle.tables.specs.Storage.{transition_in, observation_in}
use Rattle.tables.specs.Steps.{cells_to}
use Rattle.drafts.specs.Drafts.{outcome_place}
use Rattle.expected.specs.Expected.{outcome_in}

-- the sum over o of O(a,s',o) × the reward of a, s, s' and o
unfoldable pub outcomes_in : ℕ → ℕ → List ℕ → List ℤ → ℕ → ℕ → ℕ → ℤ
outcomes_in n k O cells a s s' = sum_to k (λ o. observation_in n k O a s' o · outcome_in n k cells a s s' o)

-- its size at most
abbrev pub seen_limit : ℕ
seen_limit = max_observations * (one * max_reward)

-- what that sum reads, within its limits and slices
pub record SeenFit (n k : ℕ) (O : List ℕ) (cells : List ℤ) (a s s' : ℕ) : Type 0 where
  pub few_states : n ≤ max_converted
  pub few_observations : k ≤ max_observations
  pub action : a < max_actions
  pub state : s < n
  pub reached : s' < n
  pub observed : cells_to n k a ≤ length O
  pub stated : (o : ℕ) → o < k → outcome_place n k a s s' o < length cells
  pub observation : (o : ℕ) → o < k → observation_in n k O a s' o ≤ one
  pub outcome : (o : ℕ) → o < k → nat_abs (outcome_in n k cells a s s' o) ≤ max_reward

-- counts, probabilities and rewards within their limits, in slices long enough for them
pub record ExpectReady (c : Counts) (T O : List ℕ) (cells : List ℤ) : Type 0 where
  pub some_states : 0 < c.states
  pub few_states : c.states ≤ max_converted
  pub few_actions : c.actions ≤ max_actions
  pub few_observations : c.observations ≤ max_observations
  pub transitions : c.actions * c.states * c.states ≤ length T
  pub observed : c.actions * c.states * c.observations ≤ length O
  pub stated : c.actions * c.states * c.states * c.observations ≤ length cells
  pub transition : (a : ℕ) → a < c.actions → (s : ℕ) → s < c.states → (s' : ℕ) → s' < c.states → transition_in c.states T s a s' ≤ one
  pub observation : (a : ℕ) → a < c.actions → (s' : ℕ) → s' < c.states → (o : ℕ) → o < c.observations
      → observation_in c.states c.observations O a s' o ≤ one
  pub outcome : (a : ℕ) → a < c.actions → (s : ℕ) → s < c.states → (s' : ℕ) → s' < c.states → (o : ℕ) → o < c.observations
      → nat_abs (outcome_in c.states c.observations cells a s s' o) ≤ max_reward
