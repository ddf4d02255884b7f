use Rattle.tables.specs.Limits.{max_observations}
use Rattle.alphas.specs.Alphas.{next_node}
use Rattle.alphas.proofs.Prelude.{Filled}
use Rattle.alphas.proofs.nexts_at.Given as goal

abbrev pub invariant-loop-o : goal.invariant-loop-o
invariant-loop-o l = Filled next_node max_observations l.file l.from l.k l.nodes l.at l.o
