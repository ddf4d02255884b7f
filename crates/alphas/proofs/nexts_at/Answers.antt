use Rattle.alphas.proofs.Prelude.{refl, arith, handed, filled_none, filled_more, filled-back}
use Rattle.alphas.proofs.nexts_at.Goals as goal

pub loop-o-init : goal.loop-o-init
loop-o-init c = filled_none _ _ _ _ _ _ c.requires.0 c.requires.1 refl

pub returns-in_err-x : goal.returns-in_err-x
returns-in_err-x c = filled-back _ _ _ _ _ c.loop-o.invariant c.in_err-x.ensures (handed _ c.from_residual.ensures) (omega arith)

pub loop-o-preserved : goal.loop-o-preserved
loop-o-preserved c = filled_more _ _ _ _ _ c.loop-o.invariant c.in_ok-x.ensures refl (omega arith)
