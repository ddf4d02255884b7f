use Rattle.integers.proofs.Kit.{rules}
use Rattle.alphas.specs.Alphas.{node}
use Rattle.alphas.specs.Steps.{node_of}
use Rattle.solver.proofs.All.{counted-all}
use Rattle.solver.proofs.judge_nodes.Goals as goal

pub returns : goal.returns
returns c = let a = c.args in counted-all (node a.k) (node_of a.k) a.file.now c.count.ensures (λ i at r p. search rules)
