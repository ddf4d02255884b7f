use Rattle.integers.proofs.Kit.{◌≡◌}
use Rattle.tables.specs.Storage.{transition_in}
use Rattle.columns.specs.Columns.{begins}
use Rattle.columns.proofs.size.Given as goal

abbrev pub invariant-loop-c : goal.invariant-loop-c
invariant-loop-c l = l.at ≡ begins l.n l.m (transition_in l.n l.cells) l.c
