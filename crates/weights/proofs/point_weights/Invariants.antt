use Rattle.std.proofs.Common.{◌≡◌}
use Rattle.integers.specs.Cells.{padded}
use Rattle.tables.specs.Limits.{max_states}
use Rattle.levels.specs.Storage.{point_in}
use Rattle.weights.proofs.point_weights.Given as goal

abbrev pub invariant-loop-s : goal.invariant-loop-s
invariant-loop-s l = l.p ≡ padded 0 max_states l.s (point_in l.n l.weights l.i)
