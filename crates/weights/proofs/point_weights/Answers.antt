use Rattle.std.proofs.Common.{sym, ◌∙◌, arith}
use Rattle.integers.proofs.Lists.{padded-none, padded-turn}
use Rattle.weights.proofs.point_weights.Goals as goal

pub loop-s-init : goal.loop-s-init
loop-s-init c = sym (padded-none _ _ _)

pub loop-s-preserved : goal.loop-s-preserved
loop-s-preserved c = padded-turn _ _ _ _ c.loop-s.invariant (c.from.ensures ∙ rw c.row-at.ensures.0) (omega arith)
