use Rattle.integers.proofs.Kit.{◌≡◌}
use Rattle.sparse.proofs.Cells.{down_to}
use Rattle.sparse.proofs.down.Given as goal

abbrev pub invariant-loop-i : goal.invariant-loop-i
invariant-loop-i l = l.sum ≡ down_to l.list l.first l.p l.i
