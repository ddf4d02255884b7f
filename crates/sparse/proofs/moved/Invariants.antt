use Rattle.integers.proofs.Kit.{◌≡◌}
use Rattle.integers.specs.Cells.{padded}
use Rattle.tables.specs.Limits.{max_states}
use Rattle.sparse.specs.Steps.{moved_said}
use Rattle.sparse.proofs.moved.Given as goal

abbrev pub invariant-loop-to : goal.invariant-loop-to
invariant-loop-to l = l.u ≡ padded 0 max_states l.to (moved_said l.n l.list l.p l.a.0)
