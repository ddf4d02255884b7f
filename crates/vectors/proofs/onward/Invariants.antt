use Rattle.vectors.proofs.Prelude.{◌≡◌, get_or, pos, ◌·◌, sum_to, transition_in}
use Rattle.vectors.proofs.onward.Given as goal

abbrev pub invariant-loop-to : goal.invariant-loop-to
invariant-loop-to l = l.sum ≡ sum_to l.to (λ i. transition_in l.n l.cells l.s.0 l.a.0 i · get_or l.f i (pos 0))
