use Rattle.vectors.proofs.Prelude.{◌≡◌, pos, padded, max_states}
use Rattle.sums.specs.Steps.{backup_in}
use Rattle.vectors.proofs.backups.Given as goal

abbrev pub invariant-loop-s : goal.invariant-loop-s
invariant-loop-s l = l.e ≡ padded (pos 0) max_states l.s (backup_in l.n l.g l.transition l.reward l.f l.a.0)
