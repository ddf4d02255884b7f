use Rattle.integers.proofs.Kit.{◌≡◌, ℕ, Bool, ◌&&◌, ◌||◌, true, List, eqb, ltb}
use mathlib.Core.Bool.{not}
use Rattle.integers.specs.Search.{every, some}
use Rattle.tables.specs.Storage.{transition_in, observation_in, choice_in}
use Rattle.masks.specs.Masks.{covered, covered_in}
use Rattle.reaches.proofs.reached_covered.Given as goal

-- a state is reached from one of the mask
abbrev pub from : List ℕ → ℕ → ℕ → ℕ → ℕ → Bool
from transition n a mask s' = some n (λ s. covered mask s && ltb 0 (transition_in n transition s a s'))

-- it is not, or is covered by the vectors chosen where it is seen
abbrev pub asked : List ℕ → List ℕ → List ℕ → List ℕ → ℕ → ℕ → ℕ → ℕ → ℕ → ℕ → Bool
asked transition observation masks choices n k v a mask s' =
    not (from transition n a mask s')
    || every k (λ o. eqb (observation_in n k observation a s' o) 0 || covered_in masks (choice_in k choices v o) s')

abbrev pub invariant-loop-to : goal.invariant-loop-to
invariant-loop-to l = every l.to (asked l.transition l.observation l.masks l.choices l.n l.k l.v.0 l.a.0 l.mask) ≡ true
