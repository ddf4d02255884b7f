use Rattle.candidates.proofs.Actions.{Best-of}
use Rattle.candidates.proofs.best_candidate.Given as goal

abbrev pub invariant-loop-a : goal.invariant-loop-a
invariant-loop-a l =
    Best-of l.c l.transition l.observation l.reward l.masks l.entries l.count l.p l.a l.action l.best l.most
