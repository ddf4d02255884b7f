use Rattle.expected.proofs.Prelude.{◌≡◌, ◌·◌, sum_to}
use Rattle.tables.specs.Storage.{transition_in}
use Rattle.expected.specs.Steps.{outcomes_in}
use Rattle.expected.proofs.millionths.Given as goal

abbrev pub invariant-loop-to : goal.invariant-loop-to
invariant-loop-to l =
    l.sum ≡ sum_to l.to (λ i. transition_in l.n l.transition l.s.0 l.a.0 i · outcomes_in l.n l.k l.observation l.outcomes l.a.0 l.s.0 i)
