use Rattle.std.proofs.Common.{◌≡◌}
use Rattle.integers.specs.Cells.{padded}
use Rattle.plans.specs.Limits.{max_points}
use Rattle.sawtooth.specs.Steps.{positive, gain_in}
use Rattle.ceilings.proofs.gains.Given as goal

abbrev pub invariant-loop-i : goal.invariant-loop-i
invariant-loop-i l = l.g ≡ padded 0 max_points l.i (λ j. positive (gain_in l.n l.corners l.weights l.values j))
