use Rattle.std.proofs.Common.{sym, arith}
use Rattle.integers.proofs.Lists.{padded-none, padded-turn}
use Rattle.rows.proofs.moves.Goals as goal

pub loop-to-init : goal.loop-to-init
loop-to-init c = sym (padded-none _ _ _)

pub loop-to-preserved : goal.loop-to-preserved
loop-to-preserved c = padded-turn _ _ _ _ c.loop-to.invariant c.transition_at.ensures (omega arith)
