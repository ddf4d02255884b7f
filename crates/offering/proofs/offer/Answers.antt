use Rattle.std.proofs.Common.{◌∙◌}
use Rattle.tables.specs.Storage.{tables_in}
use Rattle.columns.specs.Columns.{handed_list}
use Rattle.levels.specs.Storage.{cells, rows, lent, lent_for}
use Rattle.offering.proofs.Offered.{settled-offered}
use Rattle.offering.proofs.offer.Goals as goal

pub returns : goal.returns
returns c =
    let a = c.args in
    let m = tables_in a.c a.transition.now a.observation.now a.reward.now in
    let x = lent a.state.now (cells a.actions.now a.choices.now a.masks.now a.entries.now a.corners.now a.weights.now a.values.now)
    (rows a.informed.now a.qmdp.now) in
    let l = lent_for a.vectors a.points
    (cells a.newactions.now a.newchoices.now a.newmasks.now a.newentries.now a.newcorners.now a.newweights.now a.newvalues.now) in (
      c.settle.ensures.value ∙ c.judge_offer-verdict.ensures,
      settled-offered m x l (handed_list m a.list.now) c.judge_offer-verdict.ensures c.settle.ensures.qmdp_after,
    )
