use Rattle.drafts.proofs.Prelude.{◌+◌, eqb, Marking}
use Rattle.drafts.proofs.mark.Given as goal

abbrev pub invariant-loop-j : goal.invariant-loop-j
invariant-loop-j g l = Marking (λ j i. eqb i (l.row + (l.x + j))) l.v l.initial.cells l.j l.cells
