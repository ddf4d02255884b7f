use Rattle.expected.proofs.Prelude.{◌≡◌, ◌·◌, sum_to}
use Rattle.tables.specs.Storage.{observation_in}
use Rattle.expected.specs.Expected.{outcome_in}
use Rattle.expected.proofs.seen.Given as goal

abbrev pub invariant-loop-o : goal.invariant-loop-o
invariant-loop-o l = l.sum ≡ sum_to l.o (λ i. observation_in l.n l.k l.observation l.a.0 l.to.0 i · outcome_in l.n l.k l.outcomes l.a.0 l.s.0 l.to.0 i)
