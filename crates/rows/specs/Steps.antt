-- The sums that a step of the rows works out over storage, and what keeps them within their limits and their arrays.
use Rattle.std.specs.Prelude.{ℕ, ◌≤◌, ◌<◌, List, ℤ}
use Rattle.integers.specs.Whole.{◌·◌}
use Rattle.integers.specs.Cells.{padded}
use Rattle.tables.specs.declared.Counts.{Counts}
use Rattle.tables.specs.Limits.{max_states, max_actions, max_observations, one}
use Rattle.tables.specs.Storage.{weight_in, entry_in}
use Rattle.tables.specs.Steps.{EntriesFit}
use Rattle.sums.specs.Steps.{seen_in, TransitionsFit, ObservationsFit, RewardsFit}
use Rattle.plans.specs.Level.{product}
use Rattle.plans.specs.Rows.{highest}

-- the best of m rows at what is seen with o, from what moved to each state
unfoldable pub best_row_in : ℕ → ℕ → ℕ → List ℕ → List ℕ → List ℤ → ℕ → ℕ → ℤ
best_row_in n k m observation moved rows a o =
    highest m (λ v. product n (weight_in (padded 0 max_states n (seen_in n k observation moved a o))) (entry_in n rows v))

-- 1,000 × the largest entry at a state
abbrev pub top_in : ℕ → ℕ → List ℤ → ℕ → ℤ
top_in n m rows s = one · highest m (λ a. entry_in n rows a s)

-- counts, transitions, rewards and the rows of all actions are within the limits
pub record Ready (c : Counts) (transition : List ℕ) (reward rows : List ℤ) : Type 0 where
  pub some_states : 0 < c.states
  pub few_states : c.states ≤ max_states
  pub some_actions : 0 < c.actions
  pub few_actions : c.actions ≤ max_actions
  pub discount_limit : c.discount ≤ one
  pub transitions : (a : ℕ) → a < c.actions → TransitionsFit c.states transition a
  pub rewards : (a : ℕ) → a < c.actions → RewardsFit c.states reward a
  pub rows_fit : EntriesFit c.states c.actions rows

-- and observations
pub record Seen (c : Counts) (observation : List ℕ) : Type 0 where
  pub few_observations : c.observations ≤ max_observations
  pub observations : (a : ℕ) → a < c.actions → ObservationsFit c.states c.observations observation a
