use Rattle.tables.specs.Limits.{max_states}
use Rattle.alphas.specs.Alphas.{decimal}
use Rattle.alphas.proofs.Prelude.{Filled}
use Rattle.alphas.proofs.ticks_at.Given as goal

abbrev pub invariant-loop-s : goal.invariant-loop-s
invariant-loop-s l = Filled decimal max_states l.file l.from l.n l.ticks l.at l.s
