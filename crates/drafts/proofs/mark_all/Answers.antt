use Rattle.integers.proofs.Kit.{zero-add}
use Rattle.drafts.proofs.Prelude.{◌∙◌}
use Rattle.drafts.proofs.Marks.{stated-by}
use Rattle.drafts.proofs.mark_all.Goals as goal

pub returns : goal.returns
returns c =
    let a = c.args in
    simp zero-add at c.mark_blocks.ensures ∙ stated-by a.m a.n a.w a.a a.s a.x a.p a.cells.now
    c.lowest_of-block.ensures c.spread_of-blocks.ensures c.lowest_of-row.ensures c.spread_of-rows.ensures
    c.lowest_of-place.ensures c.spread_of-count.ensures
