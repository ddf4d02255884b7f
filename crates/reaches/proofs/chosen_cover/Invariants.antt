use Rattle.integers.proofs.Kit.{◌≡◌, true}
use Rattle.integers.specs.Search.{every}
use Rattle.tables.specs.Storage.{choice_in}
use Rattle.masks.specs.Masks.{covered_in}
use Rattle.reaches.proofs.chosen_cover.Given as goal

abbrev pub invariant-loop-o : goal.invariant-loop-o
invariant-loop-o l = every l.o (λ i. every l.n (covered_in l.masks (choice_in l.k l.choices l.v.0 i))) ≡ true
