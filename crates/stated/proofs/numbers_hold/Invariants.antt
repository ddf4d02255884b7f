use Rattle.stated.proofs.Prelude.{ℕ, ◌≡◌, List, ltb, Verdict, Fine, first_of, unless}
use Rattle.tables.specs.declared.Counts.{Counts}
use Rattle.refusals.specs.Verdicts.{◌before◌}
use Rattle.solver.specs.Files.{action_at}
use Rattle.stated.specs.Steps.{choices_at, ReadTo}
use Rattle.stated.proofs.numbers_hold.Given as goal

-- the verdict on vector v
abbrev pub verdict : List ℕ → List ℕ → Counts → ℕ → ℕ → ℕ → Verdict
verdict alpha graph c standing t v =
    unless (ltb (action_at c.states alpha v) c.actions) 10 v
    before first_of c.observations (λ o. unless (ltb (choices_at c.observations t graph v o) standing) 10 v)

abbrev pub invariant-loop-v : goal.invariant-loop-v
invariant-loop-v l =
    ReadTo l.c.states l.c.observations l.alpha l.graph l.v l.p l.q × (first_of l.v (verdict l.alpha l.graph l.c l.standing l.t) ≡ Fine)
