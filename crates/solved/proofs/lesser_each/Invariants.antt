use Rattle.std.proofs.Common.{◌≡◌, get_or, pos}
use Rattle.integers.specs.Whole.{lesser}
use Rattle.integers.specs.Cells.{padded}
use Rattle.tables.specs.Limits.{max_states}
use Rattle.solved.proofs.lesser_each.Given as goal

abbrev pub invariant-loop-s : goal.invariant-loop-s
invariant-loop-s l = l.least ≡ padded (pos 0) max_states l.s (λ i. lesser (get_or l.ticks i (pos 0)) (get_or l.backed i (pos 0)))
