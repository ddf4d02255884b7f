use Rattle.integers.proofs.Kit.{◌≡◌, ℕ, Bool, ◌&&◌, false, List, ltb}
use Rattle.integers.specs.Search.{some}
use Rattle.tables.specs.Storage.{transition_in}
use Rattle.masks.specs.Masks.{covered}
use Rattle.reaches.proofs.reached.Given as goal

-- whether a state of the mask reaches another
abbrev pub from : List ℕ → ℕ → ℕ → ℕ → ℕ → ℕ → Bool
from transition n mask a to s = covered mask s && ltb 0 (transition_in n transition s a to)

abbrev pub invariant-loop-s : goal.invariant-loop-s
invariant-loop-s l = some l.s (from l.transition l.n l.mask l.a.0 l.to.0) ≡ false
