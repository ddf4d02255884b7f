use Rattle.drafts.proofs.Prelude.{◌+◌, eqb, some, Marking}
use Rattle.tables.specs.Storage.{cell_place}
use Rattle.drafts.proofs.mark_blocks.Given as goal

abbrev pub invariant-loop-b : goal.invariant-loop-b
invariant-loop-b g l =
    Marking (λ b i. some l.rows (λ r. some l.count (λ j. eqb i (cell_place l.n l.w (l.group + (l.z + b)) (l.y + r) (l.x + j)))))
    l.v l.initial.cells l.b l.cells
