use Rattle.vectors.proofs.Prelude.{◌≡◌, get_or, pos, padded, max_states, K}
use Rattle.integers.specs.Whole.{floor_div}
use Rattle.vectors.proofs.floored.Given as goal

abbrev pub invariant-loop-s : goal.invariant-loop-s
invariant-loop-s l = l.e ≡ padded (pos 0) max_states l.s (λ j. floor_div (get_or l.b j (pos 0)) K)
