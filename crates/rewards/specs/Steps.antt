-- What the code asks of the cells of rewards.
use Rattle.std.specs.Prelude.{ℕ, ◌*◌, ◌≤◌, ◌≡◌, Bool, true, false, List, length, ℤ}
use Rattle.tables.specs.Limits.{max_states, max_converted, max_actions, max_observations}
use Rattle.entries.specs.Steps.{CellsFit}

-- counts within their limits, and cells enough for rewards in full where they are kept
pub record OutcomesFit (m n k : ℕ) (cells : List ℤ) : Type 0 where
  pub some_actions : 1 ≤ m
  pub few_actions : m ≤ max_actions
  pub some_states : 1 ≤ n
  pub few_states : n ≤ max_states
  pub some_observations : 1 ≤ k
  pub few_observations : k ≤ max_observations
  pub long : n ≤ max_converted → m * n * n * k ≤ length cells

-- cells enough for the rewards that a file states, in full or not
pub record RewardCells (full : Bool) (m n k : ℕ) (cells : List ℤ) : Type 0 where
  pub in_full : full ≡ true → OutcomesFit m n k cells
  pub by_state : full ≡ false → CellsFit m n 1 cells
