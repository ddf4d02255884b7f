use Rattle.drafts.proofs.Prelude.{◌+◌, ◌*◌, ◌≤◌, arith, mul-le-mul_right, row_below, marking-start, marking-more}
use Rattle.drafts.proofs.mark_outcomes.Goals as goal

pub loop-g-init : goal.loop-g-init
loop-g-init c = marking-start _ _ _

pub loop-g-preserved : goal.loop-g-preserved
loop-g-preserved c = marking-more c.loop-g.invariant (rw c.start.ensures at c.mark_blocks.ensures)

pub mark_blocks-requires-clause-w_in_bounds : goal.mark_blocks-requires-clause-w_in_bounds
mark_blocks-requires-clause-w_in_bounds c =
    let a = c.args in
    let g = c.loop-g.g in
    let under = row_below (a.a + g) (a.a + a.groups) a.n (omega arith) in
    let last : (a.a + g) * a.n + (a.s + a.blocks) ≤ (a.a + a.groups) * a.n = omega (arith, under) in
    rw c.start.ensures (omega (arith, c.loop-g.invariant.long, mul-le-mul_right a.w (mul-le-mul_right a.n last)))
