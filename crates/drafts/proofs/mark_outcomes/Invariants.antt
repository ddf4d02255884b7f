use Rattle.drafts.proofs.Prelude.{◌+◌, eqb, some, Marking}
use Rattle.drafts.specs.Drafts.{outcome_place}
use Rattle.drafts.proofs.mark_outcomes.Given as goal

abbrev pub invariant-loop-g : goal.invariant-loop-g
invariant-loop-g l =
    Marking (λ g i. some l.blocks (λ b. some l.rows (λ r. some l.count (λ j. eqb i (outcome_place l.n l.w (l.a + g) (l.s + b) (l.y + r) (l.x + j))))))
    l.v l.initial.cells l.g l.cells
