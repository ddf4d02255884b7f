use Rattle.drafts.proofs.Prelude.{◌+◌, eqb, some, Marking}
use Rattle.tables.specs.Storage.{row_place}
use Rattle.drafts.proofs.mark_rows.Given as goal

abbrev pub invariant-loop-r : goal.invariant-loop-r
invariant-loop-r g l = Marking (λ r i. some l.count (λ j. eqb i (row_place l.w (l.block + (l.y + r)) (l.x + j)))) l.v l.initial.cells l.r l.cells
