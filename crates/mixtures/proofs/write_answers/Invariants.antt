use Rattle.integers.proofs.Kit.{◌≡◌}
use Rattle.tables.specs.Storage.{row_in}
use Rattle.bounds.specs.Steps.{answer_in}
use Rattle.mixtures.specs.Each.{answers, answers_laid}
use Rattle.mixtures.proofs.write_answers.Given as goal

abbrev pub invariant-loop-i : goal.invariant-loop-i
invariant-loop-i l =
    answers l.verdicts l.lower l.upper l.advice
    ≡ answers_laid (λ j. answer_in l.n l.m l.vectors l.points l.actions l.masks l.entries l.corners l.weights l.informed l.gains (row_in l.n l.mixtures j))
    l.i (answers l.initial.verdicts l.initial.lower l.initial.upper l.initial.advice)
