use Rattle.std.proofs.Common.{◌≡◌}
use Rattle.integers.specs.Whole.{sum_to}
use Rattle.rows.specs.Steps.{best_row_in}
use Rattle.rows.proofs.ahead.Given as goal

abbrev pub invariant-loop-o : goal.invariant-loop-o
invariant-loop-o l = l.sum ≡ sum_to l.o (best_row_in l.n l.k l.m l.observation l.u l.rows l.a.0)
