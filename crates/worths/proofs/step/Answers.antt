use Rattle.worths.proofs.Laws.{worths-none-yet, worths-more}
use Rattle.worths.proofs.step.Goals as goal

pub loop-v-init : goal.loop-v-init
loop-v-init c = worths-none-yet _ _

pub loop-v-preserved : goal.loop-v-preserved
loop-v-preserved c =
    worths-more c.requires.graph_held _ c.loop-v-test.true c.loop-v.invariant c.worths_of-row.ensures (rw c.start.ensures at c.paste.ensures)
