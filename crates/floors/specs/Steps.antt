-- What keeps the test of vectors within the limits.
use Rattle.std.specs.Prelude.{ℕ, ◌≤◌, ◌<◌, List, length, get_or, ℤ}
use Rattle.tables.specs.declared.Counts.{Counts}
use Rattle.tables.specs.Model.{Valid}
use Rattle.tables.specs.Storage.{model_in}
use Rattle.tables.specs.Steps.{Stored}
use Rattle.masks.specs.Steps.{MaskedFit}
use Rattle.sums.specs.Steps.{ChosenFit}

-- tables that are not refused, the entries of a standing level with their masks, and offered vectors that choose among them
pub record Judging (c : Counts) (transition observation : List ℕ) (reward : List ℤ) (masks : List ℕ) (entries : List ℤ) (vectors : ℕ)
    (actions choices covering : List ℕ) (offered : List ℤ) : Type 0 where
  pub valid : Valid (model_in c transition observation reward)
  pub stored : Stored c transition observation reward
  pub actions_long : vectors ≤ length actions
  pub acts : (v : ℕ) → v < vectors → get_or actions v 0 < c.actions
  pub chosen : (v : ℕ) → v < vectors → ChosenFit c.states c.observations masks entries choices v
  pub offers : MaskedFit c.states vectors covering offered
