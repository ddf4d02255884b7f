use Rattle.std.proofs.Common.{◌≡◌, true, eqb}
use Rattle.integers.specs.Search.{every}
use Rattle.solver.specs.Files.{action_at, node_at}
use Rattle.solver.specs.Steps.{BothAt}
use Rattle.solver.proofs.same_actions.Given as goal

abbrev pub invariant-loop-v : goal.invariant-loop-v
invariant-loop-v l =
    BothAt l.n l.k l.alpha l.graph l.count l.v l.p l.q × (every l.v (λ v. eqb (action_at l.n l.alpha v) (node_at l.k l.graph v).action) ≡ true)
