use Rattle.std.proofs.Common.{◌≡◌}
use Rattle.integers.specs.Cells.{laid}
use Rattle.pricing.specs.Steps.{value_in}
use Rattle.pricing.proofs.raise_values.Given as goal

abbrev pub invariant-loop-i : goal.invariant-loop-i
invariant-loop-i l = l.values ≡ laid l.i (value_in l.n l.limit l.k l.weights l.initial.values) l.initial.values
