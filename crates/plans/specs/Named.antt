-- The plan that a vector names, over the levels that stand below it.
use Rattle.std.specs.Prelude.{ℕ, List, [], ◌∷◌, length}
use Rattle.plans.specs.Plan.{Plan, stop, step}
use Rattle.plans.specs.Level.{Level}

-- the vector's action and, for each observation, the plan of the vector that it chose, a level lower; the last level stands first in the list
unfoldable pub named : (levels : List Level) → ℕ → Plan (length levels)
named [] v = stop
named (W ∷ below) v = step (W.action v) (λ o. named below (W.choice v o))
