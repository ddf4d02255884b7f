use Rattle.integers.proofs.Kit.{arith}
use Rattle.worths.proofs.Laws.{worths-none, worths-fit, worths-step}
use Rattle.worths.proofs.worths.Goals as goal

pub loop-init : goal.loop-init
loop-init c = worths-none c.requires.graph_held

pub step-more-requires-clause-entries_fit : goal.step-more-requires-clause-entries_fit
step-more-requires-clause-entries_fit c = worths-fit c.requires.graph_held c.loop.counter (omega arith) c.loop.invariant

pub loop-preserved : goal.loop-preserved
loop-preserved c = worths-step c.requires.graph_held c.loop.counter c.loop.invariant c.step-more.ensures
