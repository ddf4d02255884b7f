use Rattle.std.proofs.Common.{◌≡◌, ◌+◌, ◌*◌, ◌≤◌, get_or}
use Rattle.integers.specs.Whole.{total_to}
use Rattle.validity.proofs.row_total.Given as goal

abbrev pub invariant-loop-x : goal.invariant-loop-x
invariant-loop-x l = (l.sum ≡ total_to l.x (λ y. get_or l.cells (l.at + y) 0)) × (l.sum ≤ l.x * 65535)
