-- What the code writes on the way, and what is asked of a model that is written.
use Rattle.std.specs.Prelude.{ℕ, ◌+◌, ◌≤◌, List, get_or, ℤ}
use Rattle.tables.specs.Limits.{max_converted, start_total}
use Rattle.integers.specs.Whole.{Below}
use Rattle.tables.specs.declared.Counts.{Counts}
use Rattle.tables.specs.Model.{Valid}
use Rattle.tables.specs.Storage.{model_in}
use Rattle.tables.specs.Steps.{Stored}
use Rattle.written.specs.Text.{parts_to, fixed, spaced}

-- the numbers in w cells, from a place on
abbrev pub numbers : ℕ → List ℕ → ℕ → ℕ → List ℕ
numbers places cells from w = parts_to w (λ x. spaced (fixed places (get_or cells (from + x) 0)))

-- tables that are not refused, of few states, and start numbers in hundredths
pub record Writable (c : Counts) (transition observation : List ℕ) (reward : List ℤ) (start : List ℕ) : Type 0 where
  pub valid : Valid (model_in c transition observation reward)
  pub stored : Stored c transition observation reward
  pub few : c.states ≤ max_converted
  pub begins : Below start_total c.states start
