use Rattle.sawtooth.proofs.Prelude.{◌+◌, get_or, weight_in}
use Rattle.sawtooth.proofs.Laws.{Least}
use Rattle.sawtooth.proofs.drop_of.Given as goal

abbrev pub invariant-loop-s : goal.invariant-loop-s
invariant-loop-s l = Least (λ t. get_or l.weights (l.at + t) 0) (weight_in l.q) l.s l.top l.under
