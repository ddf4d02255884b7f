use Rattle.std.proofs.Common.{◌≡◌, ◌+◌, ◌*◌, ◌≤◌, get_or}
use Rattle.integers.specs.Whole.{total_to}
use Rattle.weights.proofs.weights_total.Given as goal

abbrev pub invariant-loop-cell : goal.invariant-loop-cell
invariant-loop-cell l =
    (l.sum ≡ total_to l.cell-index (λ i. get_or l.cells (l.at + i) 0)) × (l.sum ≤ l.cell-index * 4_294_967_295)
