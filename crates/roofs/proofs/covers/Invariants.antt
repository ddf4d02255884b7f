use Rattle.std.proofs.Common.{◌≡◌, get_or, pos}
use Rattle.std.specs.Int.Signed.{le_z}
use Rattle.integers.specs.Search.{every}
use Rattle.integers.proofs.Kit.{true}
use Rattle.roofs.proofs.covers.Given as goal

abbrev pub invariant-loop-a : goal.invariant-loop-a
invariant-loop-a l = every l.a (λ i. le_z (get_or l.backups i (pos 0)) l.most) ≡ true
