use Rattle.integers.proofs.Kit.{◌≡◌}
use Rattle.worths.specs.Steps.{backed_up_of, worths_by}
use Rattle.worths.proofs.step.Given as goal

abbrev pub invariant-loop-v : goal.invariant-loop-v
invariant-loop-v l =
    l.worths ≡ worths_by l.c.states l.v (backed_up_of l.c l.nodes l.transition l.observation l.reward l.actions l.next l.earlier)
