use Rattle.roofing.proofs.Prelude.{◌≡◌, laid, model_in, least_value, Level, ceiling_in, CeilingOf}
use Rattle.plans.specs.Level.{corner_weight}
use Rattle.roofing.proofs.build_corners.Given as goal

abbrev pub invariant-loop-s : goal.invariant-loop-s
invariant-loop-s l =
    (L : Level) → CeilingOf l.c.states (ceiling_in l.c.states l.corners l.weights l.gains l.points) L
    → l.least ≡ laid l.s (λ i. least_value (model_in l.c l.transition l.observation l.reward) L (corner_weight i)) l.initial.least
