use Rattle.std.proofs.Common.{◌≡◌, ◌∙◌, sym, ◌+◌, get_or, arith}
use Rattle.tables.specs.Storage.{tables_in}
use Rattle.levels.specs.Storage.{cells, rows, lent, lent_for}
use Rattle.runs.specs.Demand3.{tally}
use Rattle.blocks.specs.Blocks.{packed}
use Rattle.blocks.proofs.Blocks.{packs-less}
use Rattle.series.proofs.Series.{running_none, counted-one, counted-none, running_more, offer-is}
use Rattle.series.proofs.offer_all.Goals as goal
use Rattle.series.proofs.offer_all.Goals.{then-is_ok, else-is_ok}

pub loop-i-init : goal.loop-i-init
loop-i-init c = running_none _ _ _

pub row-entry-requires : goal.row-entry-requires
row-entry-requires c = (packs-less c.loop-i-test.true (c.requires (omega arith))).entries

pub row-weight-requires : goal.row-weight-requires
row-weight-requires c = (packs-less c.loop-i-test.true (c.requires (omega arith))).weights

pub row-value-requires : goal.row-value-requires
row-value-requires c = (packs-less c.loop-i-test.true (c.requires (omega arith))).values

pub loop-i-preserved : goal.loop-i-preserved
loop-i-preserved c =
    let a = c.args in
    let i = c.loop-i.i in
    let z = c.offer-verdict.new in
    let m = tables_in a.c a.transition.now a.observation.now a.reward.now in
    let b = packed a.v a.p a.vectors.now a.points.now
    (cells a.newactions.now a.newchoices.now a.newmasks.now a.newentries.now a.newcorners.now a.newweights.now a.newvalues.now) in
    let l = lent_for (get_or a.vectors.now i 0) (get_or a.points.now i 0)
    (cells c.row-action.result.now c.row-choice.result.now c.row-mask.result.now c.row-entry.result.now
    c.row-corner.result.now c.row-weight.result.now c.row-value.result.now) in
    let counts : c.if-is_ok.accepted ≡ c.loop-i.accepted + tally c.offer-verdict.result = elim c.if-is_ok.branch [
      | then-is_ok w ↦ omega (arith, w.accepted-is, counted-one _ (sym c.is_ok.ensures.value ∙ w.if-is_ok.true))
      | else-is_ok w ↦ omega (arith, w.accepted-is, counted-none _ (sym c.is_ok.ensures.value ∙ w.if-is_ok.false))
    ] in
    running_more {z = lent z.state (cells z.actions z.choices z.masks z.entries z.corners z.weights z.values) (rows z.informed z.qmdp)} {l = l}
    c.loop-i.invariant
    (offer-is m b i c.row-action.ensures c.row-choice.ensures c.row-mask.ensures c.row-entry.ensures c.row-corner.ensures
    c.row-weight.ensures c.row-value.ensures)
    c.offer-verdict.ensures.0 c.offer-verdict.ensures.1 counts
