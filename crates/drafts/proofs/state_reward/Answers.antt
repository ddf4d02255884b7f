use Rattle.drafts.proofs.Prelude.{◌∙◌, to_z-of_z}
use Rattle.drafts.proofs.Marks.{rewarded-by}
use Rattle.drafts.proofs.state_reward.Goals as goal

pub returns : goal.returns
returns c =
    let a = c.args in
    rw (to_z-of_z c.ranges.r) at c.mark_rows.ensures ∙ rewarded-by a.m a.n a.a a.s a.r a.cells.now
    c.lowest_of-row.ensures c.spread_of-rows.ensures c.lowest_of-place.ensures c.spread_of-count.ensures
