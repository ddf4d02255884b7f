use Rattle.sawtooth.proofs.Prelude.{◌≡◌, ◌+◌, ◌*◌, get_or}
use Rattle.integers.proofs.Kit.{true, leb}
use Rattle.integers.specs.Search.{every}
use Rattle.sawtooth.proofs.reaches.Given as goal

abbrev pub invariant-loop-s : goal.invariant-loop-s
invariant-loop-s l = every l.s (λ t. leb (l.least * get_or l.weights (l.at + t) 0) (get_or l.q t 0 * l.gain)) ≡ true
