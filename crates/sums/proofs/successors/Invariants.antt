use Rattle.std.proofs.Common.{◌≡◌}
use Rattle.integers.specs.Cells.{padded}
use Rattle.tables.specs.Limits.{max_states}
use Rattle.sums.specs.Steps.{seen_in}
use Rattle.sums.proofs.successors.Given as goal

abbrev pub invariant-loop-to : goal.invariant-loop-to
invariant-loop-to l = l.q ≡ padded 0 max_states l.to (seen_in l.n l.k l.cells l.u l.a.0 l.o.0)
