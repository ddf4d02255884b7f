use Rattle.integers.proofs.Kit.{arith}
use Rattle.integers.proofs.Lists.{pasting-start, pasting-more}
use Rattle.cells.proofs.paste.Goals as goal

pub loop-x-init : goal.loop-x-init
loop-x-init g c = pasting-start _ _ _

pub loop-x-preserved : goal.loop-x-preserved
loop-x-preserved g c = pasting-more _ _ _ _ _ c.index-row-x.result (omega arith) (omega arith) c.index-row-x.is c.loop-x.invariant
