use Rattle.sawtooth.proofs.Prelude.{◌≡◌}
use Rattle.integers.specs.Whole.{largest_to}
use Rattle.sawtooth.specs.Steps.{drop_in}
use Rattle.sawtooth.proofs.largest_drop.Given as goal

abbrev pub invariant-loop-i : goal.invariant-loop-i
invariant-loop-i l = l.best ≡ largest_to l.i (drop_in l.n l.weights l.gains l.q)
