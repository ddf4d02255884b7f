-- The test of masks over storage, and what keeps it within storage.
use Rattle.std.specs.Prelude.{ℕ, ◌*◌, ◌≤◌, ◌<◌, Bool, not, ◌||◌, List, eqb, length, get_or}
use Rattle.integers.specs.Search.{every}
use Rattle.tables.specs.declared.Counts.{Counts}
use Rattle.tables.specs.Limits.{max_states, max_actions, max_observations, max_vectors}
use Rattle.tables.specs.Storage.{transition_in, observation_in, choice_in}
use Rattle.tables.specs.Steps.{rows_to, cells_to}
use Rattle.masks.specs.Masks.{covered_in}

-- whether the vectors chosen for the observations cover each state that is reached, with T × O above 0, from a covered one
abbrev pub reached_in : ℕ → ℕ → List ℕ → List ℕ → List ℕ → (ℕ → Bool) → ℕ → (ℕ → ℕ) → Bool
reached_in n k transition observation masks covers a choice =
    every n (λ s. not (covers s)
    || every k (λ o. every n (λ s'. eqb (transition_in n transition s a s' * observation_in n k observation a s' o) 0 || covered_in masks (choice o) s')))

-- tables long enough for an action
pub record ActionStored (n k : ℕ) (transition observation : List ℕ) (a : ℕ) : Type 0 where
  pub few_states : n ≤ max_states
  pub few_observations : k ≤ max_observations
  pub few_actions : a < max_actions
  pub transitions : cells_to n n a ≤ length transition
  pub observed : cells_to n k a ≤ length observation

-- a vector that chooses among standing ones
pub record Chooses (k : ℕ) (masks choices : List ℕ) (v : ℕ) : Type 0 where
  pub row : v < max_vectors
  pub stored : rows_to k v ≤ length choices
  pub vector : (o : ℕ) → o < k → choice_in k choices v o < length masks

-- tables, the masks of a standing level, and offered vectors that choose among them
pub record Reaching (c : Counts) (transition observation masks : List ℕ) (vectors : ℕ) (actions choices covering : List ℕ) : Type 0 where
  pub some_states : 0 < c.states
  pub actions_long : vectors ≤ length actions
  pub covering_long : vectors ≤ length covering
  pub acts : (v : ℕ) → v < vectors → ActionStored c.states c.observations transition observation (get_or actions v 0)
  pub chooses : (v : ℕ) → v < vectors → Chooses c.observations masks choices v
