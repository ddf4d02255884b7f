-- What the code's steps ask and say.
use Rattle.std.specs.Prelude.{ℕ, ◌+◌, ◌≤◌, ◌<◌, ◌≡◌, List, ℤ, pos}
use Rattle.integers.specs.Cells.{padded}
use Rattle.tables.specs.declared.Counts.{Counts}
use Rattle.tables.specs.Limits.{max_states, max_observations, max_vectors, max_levels}
use Rattle.tables.specs.Storage.{model_in}
use Rattle.plans.specs.Level.{Level}
use Rattle.candidates.specs.Steps.{upon_in, Upon}
use Rattle.solver.specs.Files.{action_at}
use Rattle.stated.specs.Steps.{choices_at, ReadTo, Files}
use Rattle.solved.specs.declared.Row.{Row}
use Rattle.solved.specs.Solved.{solved}

-- the vectors that the files say, over the entries of level t
abbrev pub vectors_over : Counts → List ℕ → List ℕ → List ℤ → List ℕ → List ℤ → ℕ → ℕ → List ℕ → List ℕ → Level
vectors_over c transition observation reward masks entries standing t alphaFile graphFile =
    solved (model_in c transition observation reward) t (upon_in c standing masks entries) alphaFile graphFile 0 (λ i s. 0)

-- standing vectors that can be built upon, and files that are not refused, by 10 neither
pub record Solving (c : Counts) (transition observation : List ℕ) (reward : List ℤ) (masks : List ℕ) (entries : List ℤ) (standing t : ℕ)
    (alphaFile graphFile : List ℕ) (count : ℕ) : Type 0 where
  pub upon : Upon c transition observation reward masks entries standing
  pub below : t < max_levels
  pub few : count ≤ max_vectors
  pub files : Files c.states c.observations alphaFile graphFile count
  pub acts : (v : ℕ) → v < count → action_at c.states alphaFile v < c.actions
  pub chooses : (v : ℕ) → v < count → (o : ℕ) → o < c.observations → choices_at c.observations t graphFile v o < standing

-- vector v of a level, and where the files go on after it
pub record Gives (n k : ℕ) (alphaFile graphFile : List ℕ) (W : Level) (v : ℕ) (r : Row) : Type 0 where
  pub action : r.action.0 ≡ W.action v
  pub chosen : r.chosen ≡ padded 0 max_observations k (W.choice v)
  pub entries : r.entries ≡ padded (pos 0) max_states n (W.entry v)
  pub onward : ReadTo n k alphaFile graphFile (v + 1) r.alpha r.graph
