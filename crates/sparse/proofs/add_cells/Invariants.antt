use Rattle.integers.proofs.Kit.{◌≡◌, get_or, pos, ◌+ℤ◌}
use Rattle.integers.specs.Whole.{◌·◌}
use Rattle.integers.specs.Cells.{laid}
use Rattle.columns.specs.Columns.{said_for}
use Rattle.sparse.proofs.add_cells.Given as goal

abbrev pub invariant-loop-i : goal.invariant-loop-i
invariant-loop-i l = l.sums ≡ laid l.n (λ s. get_or l.initial.sums s (pos 0) +ℤ said_for l.list l.first l.i s · l.x) l.initial.sums
