-- What the code's steps ask and say.
use Rattle.std.specs.Prelude.{ℕ, ◌+◌, ◌≤◌, ◌<◌, ◌≡◌, true, List, length, get_or, pos}
use Rattle.integers.specs.Cells.{padded}
use Rattle.tables.specs.declared.Counts.{Counts}
use Rattle.tables.specs.Limits.{max_states, max_observations}
use Rattle.refusals.specs.Verdicts.{Verdict, unless, first_of}
use Rattle.reaches.specs.Steps.{reached_in, ActionStored}
use Rattle.solver.specs.Files.{vectors_in, action_at, ticks_at, next_at}
use Rattle.solver.specs.Steps.{BothAt}
use Rattle.stated.specs.declared.Said.{Said}
use Rattle.stated.specs.Stated.{chosen_over}

-- what vector v chooses, over level t
abbrev pub choices_at : ℕ → ℕ → List ℕ → ℕ → ℕ → ℕ
choices_at k t graphFile v o = chosen_over t (next_at k graphFile v o)

-- both files are read up to the vector v
abbrev pub ReadTo : ℕ → ℕ → List ℕ → List ℕ → ℕ → ℕ → ℕ → Type 0
ReadTo n k alphaFile graphFile v p q = BothAt n k alphaFile graphFile (vectors_in n alphaFile) v p q

-- files that are not refused, and how many vectors they have
pub record Files (n k : ℕ) (alphaFile graphFile : List ℕ) (count : ℕ) : Type 0 where
  pub few_states : n ≤ max_states
  pub few_observations : k ≤ max_observations
  pub as_many : count ≡ vectors_in n alphaFile
  pub start : ReadTo n k alphaFile graphFile 0 0 0

-- what both files say of the vector v, and where they go on after it
pub record SaysVector (n k t : ℕ) (alphaFile graphFile : List ℕ) (v : ℕ) (r : Said) : Type 0 where
  pub action : r.action.0 ≡ action_at n alphaFile v
  pub ticks : (s : ℕ) → s < n → get_or r.ticks s (pos 0) ≡ ticks_at n alphaFile v s
  pub chosen : r.chosen ≡ padded 0 max_observations k (choices_at k t graphFile v)
  pub onward : ReadTo n k alphaFile graphFile (v + 1) r.alpha r.graph

-- tables, the masks of a standing level, and files that are not refused, by 10 neither
pub record Choosing (c : Counts) (transition observation masks : List ℕ) (t : ℕ) (alphaFile graphFile : List ℕ) (count : ℕ) : Type 0 where
  pub some_states : 0 < c.states
  pub files : Files c.states c.observations alphaFile graphFile count
  pub acts : (v : ℕ) → v < count → ActionStored c.states c.observations transition observation (action_at c.states alphaFile v)
  pub chooses : (v : ℕ) → v < count → (o : ℕ) → o < c.observations → choices_at c.observations t graphFile v o < length masks

-- 21 of vectors that cover all states
abbrev pub masks_over : Counts → List ℕ → List ℕ → List ℕ → ℕ → (ℕ → ℕ) → (ℕ → ℕ → ℕ) → Verdict
masks_over c transition observation masks count action choice =
    first_of count (λ v. unless (reached_in c.states c.observations transition observation masks (λ s. true) (action v) (choice v)) 21 v)
