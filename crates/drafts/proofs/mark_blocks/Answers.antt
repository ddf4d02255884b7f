use Rattle.drafts.proofs.Prelude.{◌+◌, ◌*◌, ◌≤◌, arith, mul-le-mul_right, row_below, marking-start, marking-more}
use Rattle.drafts.proofs.mark_blocks.Given.{Over}
use Rattle.drafts.proofs.mark_blocks.Goals as goal
use Rattle.drafts.proofs.mark_blocks.Goals.{After-start}

pub loop-b-init : goal.loop-b-init
loop-b-init g c = marking-start _ _ _

pub loop-b-preserved : goal.loop-b-preserved
loop-b-preserved g c = marking-more c.loop-b.invariant (rw c.start.ensures at c.mark_rows.ensures)

-- the rows of a block are among those of all
last : (g : Over) (c : After-start g) → c.start.result + (c.args.y + c.args.rows) ≤ (c.args.group + (c.args.z + c.args.blocks)) * c.args.n
last g c =
    let a = c.args in
    omega (arith, c.start.ensures, row_below (a.group + (a.z + c.loop-b.b)) (a.group + (a.z + a.blocks)) a.n (omega arith))

pub mark_rows-requires-clause-rows_bound : goal.mark_rows-requires-clause-rows_bound
mark_rows-requires-clause-rows_bound g c =
    let a = c.args in
    (omega (arith, last g c), omega arith)

pub mark_rows-requires-clause-w_in_bounds : goal.mark_rows-requires-clause-w_in_bounds
mark_rows-requires-clause-w_in_bounds g c = omega (arith, c.loop-b.invariant.long, mul-le-mul_right c.args.w (last g c))
