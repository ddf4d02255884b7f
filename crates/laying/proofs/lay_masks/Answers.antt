use Rattle.std.proofs.Common.{sym, arith}
use Rattle.integers.proofs.Lists.{laid_none, laid-turn}
use Rattle.laying.proofs.lay_masks.Goals as goal

pub loop-v-init : goal.loop-v-init
loop-v-init c = sym (laid_none _ _)

pub loop-v-preserved : goal.loop-v-preserved
loop-v-preserved c = laid-turn _ _ c.args.masks.now 0 c.loop-v.invariant c.narrowed.ensures (omega arith)
