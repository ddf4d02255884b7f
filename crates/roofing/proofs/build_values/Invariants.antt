use Rattle.roofing.proofs.Prelude.{◌≡◌, laid, model_in, least_value, Level, ceiling_in, CeilingOf}
use Rattle.levels.specs.Storage.{point_in}
use Rattle.roofing.proofs.build_values.Given as goal

abbrev pub invariant-loop-i : goal.invariant-loop-i
invariant-loop-i l =
    (L : Level) → CeilingOf l.c.states (ceiling_in l.c.states l.corners l.weights l.gains l.points) L
    → l.least ≡ laid l.i (λ j. least_value (model_in l.c l.transition l.observation l.reward) L (point_in l.c.states l.given j)) l.initial.least
