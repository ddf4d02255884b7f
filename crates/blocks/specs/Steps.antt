-- What the code's steps leave known, for its contracts.
use Rattle.std.specs.Prelude.{ℕ, ◌*◌, ◌≤◌, length}
use Rattle.tables.specs.Limits.{max_states, max_observations, max_vectors}
use Rattle.plans.specs.Limits.{max_points}
use Rattle.blocks.specs.Blocks.{Packed}

-- so many blocks are there, of a model with n states and k observations
pub record Packs (n k count : ℕ) (b : Packed) : Type 0 where
  pub few_states : n ≤ max_states
  pub few_observations : k ≤ max_observations
  pub few_vectors : b.v ≤ max_vectors
  pub few_points : b.p ≤ max_points
  pub vectors : count ≤ length b.vectors
  pub points : count ≤ length b.points
  pub actions : count * b.v ≤ length b.cells.actions
  pub choices : count * (b.v * k) ≤ length b.cells.choices
  pub masks : count * b.v ≤ length b.cells.masks
  pub entries : count * (b.v * n) ≤ length b.cells.entries
  pub corners : count * n ≤ length b.cells.corners
  pub weights : count * (b.p * n) ≤ length b.cells.weights
  pub values : count * b.p ≤ length b.cells.values
