use Rattle.std.proofs.Common.{◌≡◌}
use Rattle.integers.specs.Cells.{padded}
use Rattle.tables.specs.Limits.{max_states}
use Rattle.tables.specs.Storage.{transition_in}
use Rattle.rows.proofs.moves.Given as goal

abbrev pub invariant-loop-to : goal.invariant-loop-to
invariant-loop-to l = l.u ≡ padded 0 max_states l.to (transition_in l.n l.transition l.s.0 l.a.0)
