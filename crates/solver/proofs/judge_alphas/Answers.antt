use Rattle.integers.proofs.Kit.{rules}
use Rattle.alphas.specs.Alphas.{alpha}
use Rattle.alphas.specs.Steps.{alpha_of}
use Rattle.solver.proofs.All.{counted-all}
use Rattle.solver.proofs.judge_alphas.Goals as goal

pub returns : goal.returns
returns c = let a = c.args in counted-all (λ _. alpha a.n) (alpha_of a.n) a.file.now c.count.ensures (λ i at r p. search rules)
