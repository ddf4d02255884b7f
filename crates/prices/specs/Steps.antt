-- What is asked of two tables whose chances are compared.
use Rattle.std.specs.Prelude.{ℕ, ◌*◌, ◌≤◌, List, length}
use Rattle.tables.specs.declared.Counts.{Counts}
use Rattle.tables.specs.Limits.{max_states, max_actions, max_observations}

-- T and O long enough for their counts, which are few
pub record Chances (c : Counts) (transition observation : List ℕ) : Type 0 where
  pub few_states : c.states ≤ max_states
  pub few_actions : c.actions ≤ max_actions
  pub few_observations : c.observations ≤ max_observations
  pub transitions : c.actions * c.states * c.states ≤ length transition
  pub observed : c.actions * c.states * c.observations ≤ length observation
