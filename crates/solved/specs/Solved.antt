-- The level that a solver's alpha file and policy graph file say, over the level that stands.
use Rattle.std.specs.Prelude.{ℕ, true, List}
use Rattle.integers.specs.Whole.{lesser}
use Rattle.tables.specs.Model.{Model, backed_up}
use Rattle.plans.specs.Level.{Level, corner_weight, follows}
use Rattle.plans.specs.Build.{least_value}
use Rattle.solver.specs.Files.{vectors_in, action_at, ticks_at, next_at}
use Rattle.stated.specs.Stated.{chosen_over}

-- over level t, which is L: actions and choices are the files'; an entry is the lesser of the decimal in ticks and its own backup over K, each rounded
-- down; corners and points are the builder's
unfoldable pub solved : Model → ℕ → Level → List ℕ → List ℕ → ℕ → (ℕ → ℕ → ℕ) → Level
solved M t L alphaFile graphFile points weight =
    let n : ℕ = M.states in
    let action : ℕ → ℕ = action_at n alphaFile in
    let choice : ℕ → ℕ → ℕ = λ v o. chosen_over t (next_at M.observations graphFile v o) in
    record {
      vectors = vectors_in n alphaFile;
      action = action;
      choice = choice;
      covers = λ v s. true;
      entry = λ v s. lesser (ticks_at n alphaFile v s) (backed_up M (action v) (follows L (choice v)) s);
      corner = λ s. least_value M L (corner_weight s);
      points = points;
      weight = weight;
      value = λ i. least_value M L (weight i);
    }
