use Rattle.integers.proofs.Kit.{◌≡◌, pos}
use Rattle.integers.specs.Cells.{padded}
use Rattle.tables.specs.Limits.{max_states}
use Rattle.sparse.specs.Steps.{backup_said}
use Rattle.sparse.proofs.backups.Given as goal

abbrev pub invariant-loop-s : goal.invariant-loop-s
invariant-loop-s l = l.e ≡ padded (pos 0) max_states l.s (backup_said l.n l.g l.list l.reward l.f l.a.0)
