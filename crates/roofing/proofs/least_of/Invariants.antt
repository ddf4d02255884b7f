use Rattle.roofing.proofs.Prelude.{◌≡◌}
use Rattle.integers.proofs.Kit.{◌+◌}
use Rattle.integers.specs.Search.{first_largest}
use Rattle.roofing.specs.Steps.{least_from}
use Rattle.roofing.proofs.least_of.Given as goal

abbrev pub invariant-loop-backup : goal.invariant-loop-backup
invariant-loop-backup l = l.most ≡ least_from l.backups (first_largest (l.backup-index + 1) (least_from l.backups))
