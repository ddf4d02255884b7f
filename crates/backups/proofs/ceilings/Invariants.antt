use Rattle.backups.proofs.Prelude.{◌≡◌, ahead_at, ceiling_in, sum_to}
use Rattle.backups.proofs.ceilings.Given as goal

abbrev pub invariant-loop-o : goal.invariant-loop-o
invariant-loop-o l =
    l.sum ≡ sum_to l.o (ahead_at l.n l.k l.observation l.u (ceiling_in l.n l.corners l.weights l.gains l.points) l.a.0)
