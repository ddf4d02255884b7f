use Rattle.integers.proofs.Kit.{◌≡◌, ◌<◌, ◌+◌, ℕ, get_or, false}
use Rattle.masks.specs.Masks.{covered}
use Rattle.columns.specs.Columns.{state_of}
use Rattle.sparse.proofs.some_covered.Given as goal

abbrev pub invariant-loop-i : goal.invariant-loop-i
invariant-loop-i l = (k : ℕ) → k < l.i → covered l.mask (state_of (get_or l.list (l.first + k) 0)) ≡ false
