use Rattle.integers.proofs.Kit.{◌≡◌, ℕ, Bool, List, ltb}
use Rattle.tables.specs.Storage.{weight_in}
use Rattle.masks.specs.Masks.{mask_of}
use Rattle.masks.proofs.support.Given as goal

-- the states with a weight above 0
abbrev pub weighed : List ℕ → ℕ → Bool
weighed q s = ltb 0 (weight_in q s)

abbrev pub invariant-loop-s : goal.invariant-loop-s
invariant-loop-s l = l.states ≡ mask_of l.s (weighed l.q)
