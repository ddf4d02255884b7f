use Rattle.integers.proofs.Kit.{◌≡◌}
use Rattle.integers.specs.Cells.{padded}
use Rattle.tables.specs.Limits.{max_states}
use Rattle.tables.specs.Storage.{weight_in}
use Rattle.ascent.proofs.mixture.Given as goal

abbrev pub invariant-loop-s : goal.invariant-loop-s
invariant-loop-s l = l.b ≡ padded 0 max_states l.s (weight_in l.start)
