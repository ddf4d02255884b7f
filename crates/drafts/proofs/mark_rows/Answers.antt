use Rattle.drafts.proofs.Prelude.{marking-start, marking-more}
use Rattle.drafts.proofs.mark_rows.Goals as goal

pub loop-r-init : goal.loop-r-init
loop-r-init g c = marking-start _ _ _

pub loop-r-preserved : goal.loop-r-preserved
loop-r-preserved g c = marking-more c.loop-r.invariant (rw c.start.ensures at c.mark.ensures)
