use Rattle.std.proofs.Common.{◌≡◌, get_or}
use Rattle.integers.specs.Whole.{largest_to}
use Rattle.validity.proofs.largest.Given as goal

abbrev pub invariant-loop-cell : goal.invariant-loop-cell
invariant-loop-cell l = l.most ≡ largest_to l.cell-index (λ y. get_or l.fn.cells y 0)
