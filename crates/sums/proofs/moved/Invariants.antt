use Rattle.std.proofs.Common.{◌≡◌}
use Rattle.integers.specs.Cells.{padded}
use Rattle.tables.specs.Limits.{max_states}
use Rattle.sums.specs.Steps.{moved_in}
use Rattle.sums.proofs.moved.Given as goal

abbrev pub invariant-loop-to : goal.invariant-loop-to
invariant-loop-to l = l.u ≡ padded 0 max_states l.to (moved_in l.n l.cells l.p l.a.0)
