use Rattle.backups.proofs.Prelude.{arith}
use Rattle.backups.proofs.Roofs.{corner-at, corner-light, allowed}
use Rattle.backups.proofs.at_corner.Goals as goal

pub backups_at-requires-clause-light : goal.backups_at-requires-clause-light
backups_at-requires-clause-light c = corner-light c.corner_weights-p.ensures c.requires.s_lt_states c.requires.roof.valid.few_states

pub returns : goal.returns
returns c =
    allowed _ (λ s l. corner-at c.corner_weights-p.ensures (omega (arith, c.requires.roof.valid.few_states)) s) c.backups_at.ensures
