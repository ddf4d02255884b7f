use Rattle.vectors.proofs.Prelude.{sym, arith, padded-none, padded-turn, answer}
use Rattle.vectors.proofs.foreseen.Goals as goal

pub loop-to-init : goal.loop-to-init
loop-to-init c = sym (padded-none _ _ _)

pub loop-to-preserved : goal.loop-to-preserved
loop-to-preserved c = padded-turn _ _ _ _ c.loop-to.invariant (answer c.foreseen_at.type_inv c.foreseen_at.ensures) (omega arith)
