use Rattle.std.proofs.Common.{◌≡◌, ◌*◌}
use Rattle.sums.proofs.Prelude.{total_to, weight_in, transition_in}
use Rattle.integers.specs.Whole.{total_to}
use Rattle.tables.specs.Storage.{weight_in, transition_in}
use Rattle.sums.proofs.moved_to.Given as goal

abbrev pub invariant-loop-s : goal.invariant-loop-s
invariant-loop-s l = l.sum ≡ total_to l.s (λ i. weight_in l.p i * transition_in l.n l.cells i l.a.0 l.to.0)
