use Rattle.drafts.proofs.Prelude.{write-marks, marking-start, marking-more}
use Rattle.drafts.proofs.mark.Goals as goal

pub loop-j-init : goal.loop-j-init
loop-j-init g c = marking-start _ _ _

pub loop-j-preserved : goal.loop-j-preserved
loop-j-preserved g c = marking-more c.loop-j.invariant (write-marks _ _ _)
