use Rattle.integers.proofs.Kit.{List, ℕ, ℤ}
use Rattle.tables.specs.declared.Counts.{Counts}
use Rattle.plans.specs.Level.{Level}
use Rattle.plans.specs.Build.{built}
use Rattle.candidates.specs.Steps.{upon_in}
use Rattle.builder.specs.Steps.{Filled}
use Rattle.builder.proofs.Prelude.{model_in, point_in}
use Rattle.builder.proofs.build_vectors.Given as goal

-- the built level
abbrev pub W : Counts → List ℕ → List ℕ → List ℤ → List ℕ → List ℤ → List ℕ → ℕ → ℕ → Level
W c T O R covered standing weights vectors points = built (model_in c T O R) (upon_in c vectors covered standing) points (point_in c.states weights)

abbrev pub invariant-loop-v : goal.invariant-loop-v
invariant-loop-v l =
    Filled l.c.states l.c.observations (W l.c l.transition l.observation l.reward l.covered l.standing l.weights l.vectors l.points) l.v
    l.initial.actions l.initial.choices l.initial.masks l.initial.entries l.actions l.choices l.masks l.entries
