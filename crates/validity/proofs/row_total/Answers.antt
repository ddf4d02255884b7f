use Rattle.validity.proofs.Prelude.{sym, arith, total-none, total-step}
use Rattle.validity.proofs.row_total.Goals as goal

pub loop-x-init : goal.loop-x-init
loop-x-init c = (sym (total-none _), omega arith)

pub loop-x-preserved : goal.loop-x-preserved
loop-x-preserved c = (rw c.wide-sum.ensures (total-step _ _ c.loop-x.invariant.0), omega arith)
