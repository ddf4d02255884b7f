use Rattle.std.proofs.Common.{◌≡◌, pos}
use Rattle.integers.specs.Cells.{padded}
use Rattle.tables.specs.Limits.{max_states}
use Rattle.rows.specs.Steps.{top_in}
use Rattle.rows.proofs.tops.Given as goal

abbrev pub invariant-loop-s : goal.invariant-loop-s
invariant-loop-s l = l.f ≡ padded (pos 0) max_states l.s (top_in l.n l.m l.rows)
