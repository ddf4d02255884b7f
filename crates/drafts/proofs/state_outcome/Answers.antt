use Rattle.drafts.proofs.Prelude.{◌∙◌, mul-le-mul_right, arith, to_z-of_z, stands-within}
use Rattle.drafts.proofs.Marks.{outcomed-by}
use Rattle.drafts.proofs.state_outcome.Goals as goal

pub mark_outcomes-requires-clause-w_in_bounds : goal.mark_outcomes-requires-clause-w_in_bounds
mark_outcomes-requires-clause-w_in_bounds c =
    let a = c.args in
    let (group, _) = c.requires.a_le_m in
    let groups = stands-within a.m a.a c.lowest_of-group.ensures c.spread_of-groups.ensures group in
    omega (arith, c.requires.k_in_bounds, mul-le-mul_right a.k (mul-le-mul_right a.n (mul-le-mul_right a.n groups)))

pub returns : goal.returns
returns c =
    let a = c.args in
    rw (to_z-of_z c.ranges.r) at c.mark_outcomes.ensures ∙ outcomed-by a.m a.n a.k a.a a.s a.to a.o a.r
    a.cells.now c.lowest_of-group.ensures c.spread_of-groups.ensures c.lowest_of-block.ensures c.spread_of-blocks.ensures
    c.lowest_of-row.ensures c.spread_of-rows.ensures c.lowest_of-place.ensures c.spread_of-count.ensures
