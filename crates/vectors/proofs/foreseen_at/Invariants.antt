use Rattle.vectors.proofs.Prelude.{◌≡◌, ◌·◌, sum_to}
use Rattle.tables.specs.Storage.{observation_in}
use Rattle.sums.specs.Steps.{chosen_in}
use Rattle.vectors.proofs.foreseen_at.Given as goal

abbrev pub invariant-loop-o : goal.invariant-loop-o
invariant-loop-o l =
    l.sum ≡ sum_to l.o (λ i. observation_in l.n l.k l.cells l.a.0 l.to.0 i · chosen_in l.n l.k l.masks l.entries l.choices l.v.0 i l.to.0)
