use Rattle.std.proofs.Common.{◌≡◌}
use Rattle.refusals.specs.Verdicts.{Fine, first_of}
use Rattle.floors.proofs.Floors.{entry_verdict}
use Rattle.floors.proofs.floors_hold.Given as goal

-- nothing is refused of the states so far, nor of the vectors so far
abbrev pub invariant-loop-s : goal.invariant-loop-s
invariant-loop-s l =
    (l.found ≡ Fine)
    × (first_of l.s (entry_verdict l.c l.transition l.observation l.reward l.masks l.entries l.actions l.choices l.covering l.offered l.v) ≡ Fine)

abbrev pub invariant-vectors : goal.invariant-vectors
invariant-vectors l =
    (l.found ≡ Fine)
    × (first_of l.v (λ w. first_of l.c.states
    (entry_verdict l.c l.transition l.observation l.reward l.masks l.entries l.actions l.choices l.covering l.offered w)) ≡ Fine)
