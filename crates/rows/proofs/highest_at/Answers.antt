use Rattle.rows.proofs.Prelude.{◌∙◌, answer}
use Rattle.plans.proofs.Rows.{highest-first, highest-later, highest-same}
use Rattle.rows.proofs.highest_at.Goals as goal
use Rattle.rows.proofs.highest_at.Goals.{then-most-here, else-most-here}

pub loop-a-init : goal.loop-a-init
loop-a-init c = answer c.reward_at-most.type_inv c.reward_at-most.ensures ∙ highest-first _

pub loop-a-preserved : goal.loop-a-preserved
loop-a-preserved c =
    let so_far = c.loop-a.invariant in
    let met = answer c.reward_at-here.type_inv c.reward_at-here.ensures in
    elim c.if-most-here.branch [
      | then-most-here w ↦ w.most-is ∙ highest-later _ _ so_far met w.if-most-here.true
      | else-most-here w ↦ w.most-is ∙ highest-same _ _ so_far met w.if-most-here.false
    ]
