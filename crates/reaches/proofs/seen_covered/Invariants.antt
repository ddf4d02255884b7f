use Rattle.integers.proofs.Kit.{◌≡◌, ℕ, Bool, ◌||◌, true, List, eqb}
use Rattle.integers.specs.Search.{every}
use Rattle.tables.specs.Storage.{observation_in, choice_in}
use Rattle.masks.specs.Masks.{covered_in}
use Rattle.reaches.proofs.seen_covered.Given as goal

-- whether the vector chosen for an observation, where it is seen, covers the state
abbrev pub seen : List ℕ → List ℕ → List ℕ → ℕ → ℕ → ℕ → ℕ → ℕ → ℕ → Bool
seen observation masks choices n k v a to o = eqb (observation_in n k observation a to o) 0 || covered_in masks (choice_in k choices v o) to

abbrev pub invariant-loop-o : goal.invariant-loop-o
invariant-loop-o l = every l.o (seen l.observation l.masks l.choices l.n l.k l.v.0 l.a.0 l.to.0) ≡ true
