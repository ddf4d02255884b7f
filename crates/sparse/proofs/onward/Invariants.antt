use Rattle.integers.proofs.Kit.{◌≡◌, pos}
use Rattle.integers.specs.Cells.{padded}
use Rattle.tables.specs.Limits.{max_states}
use Rattle.sparse.proofs.Cells.{onward_to}
use Rattle.sparse.proofs.onward.Given as goal

abbrev pub invariant-loop-to : goal.invariant-loop-to
invariant-loop-to l = l.sums ≡ padded (pos 0) max_states l.n (onward_to l.n l.list l.f l.a.0 l.to)
