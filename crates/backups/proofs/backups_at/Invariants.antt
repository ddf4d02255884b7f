use Rattle.backups.proofs.Prelude.{◌≡◌, ceiling_in, padded}
use Rattle.integers.proofs.Kit.{pos}
use Rattle.tables.specs.Limits.{max_actions}
use Rattle.backups.specs.Steps.{backup_at_in}
use Rattle.backups.proofs.backups_at.Given as goal

abbrev pub invariant-loop-a : goal.invariant-loop-a
invariant-loop-a l =
    l.backups
    ≡ padded (pos 0) max_actions l.a
    (backup_at_in l.c l.transition l.observation l.reward (ceiling_in l.c.states l.corners l.weights l.gains l.points) l.p)
