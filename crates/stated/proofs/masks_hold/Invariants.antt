use Rattle.stated.proofs.Prelude.{ℕ, ◌≡◌, List, Fine, first_of, unless}
use Rattle.integers.proofs.Kit.{true, Bool}
use Rattle.reaches.specs.Steps.{reached_in}
use Rattle.solver.specs.Files.{action_at}
use Rattle.stated.specs.Steps.{choices_at, ReadTo}
use Rattle.stated.proofs.masks_hold.Given as goal

-- whether what vector v chooses covers what is reached
abbrev pub keeps : List ℕ → List ℕ → List ℕ → ℕ → List ℕ → List ℕ → ℕ → ℕ → ℕ → Bool
keeps T O masks t alpha graph n k v = reached_in n k T O masks (λ s. true) (action_at n alpha v) (choices_at k t graph v)

abbrev pub invariant-loop-v : goal.invariant-loop-v
invariant-loop-v l =
    ReadTo l.n l.k l.alpha l.graph l.v l.p l.q
    × (first_of l.v (λ i. unless (keeps l.transition l.observation l.masks l.t l.alpha l.graph l.n l.k i) 21 i) ≡ Fine)
