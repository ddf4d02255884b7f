use Rattle.stated.proofs.Prelude.{sym, arith}
use Rattle.integers.proofs.Lists.{padded-none, padded-turn}
use Rattle.stated.proofs.choices_of.Goals as goal

pub loop-o-init : goal.loop-o-init
loop-o-init c = sym (padded-none _ _ _)

pub loop-o-preserved : goal.loop-o-preserved
loop-o-preserved c = padded-turn _ _ _ _ c.loop-o.invariant c.chosen_over.ensures (omega arith)
