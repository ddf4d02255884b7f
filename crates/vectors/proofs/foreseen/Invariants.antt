use Rattle.vectors.proofs.Prelude.{◌≡◌, pos, padded, max_states, foreseen_in}
use Rattle.vectors.proofs.foreseen.Given as goal

abbrev pub invariant-loop-to : goal.invariant-loop-to
invariant-loop-to l = l.f ≡ padded (pos 0) max_states l.to (foreseen_in l.n l.k l.cells l.masks l.entries l.choices l.v.0 l.a.0)
