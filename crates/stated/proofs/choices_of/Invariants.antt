use Rattle.stated.proofs.Prelude.{◌≡◌, get_or, max_observations}
use Rattle.integers.specs.Cells.{padded}
use Rattle.stated.specs.Stated.{chosen_over}
use Rattle.stated.proofs.choices_of.Given as goal

abbrev pub invariant-loop-o : goal.invariant-loop-o
invariant-loop-o l = l.chosen ≡ padded 0 max_observations l.o (λ i. chosen_over l.t (get_or l.next i 0))
