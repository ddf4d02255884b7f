use Rattle.vectors.proofs.Prelude.{sym, arith, padded-none, padded-turn, answer}
use Rattle.vectors.proofs.backups.Goals as goal

pub loop-s-init : goal.loop-s-init
loop-s-init c = sym (padded-none _ _ _)

pub loop-s-preserved : goal.loop-s-preserved
loop-s-preserved c = padded-turn _ _ _ _ c.loop-s.invariant (answer c.backup.type_inv c.backup.ensures) (omega arith)
