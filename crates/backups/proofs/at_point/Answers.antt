use Rattle.backups.proofs.Roofs.{point_at, point-light, allowed}
use Rattle.backups.proofs.at_point.Goals as goal

pub backups_at-requires-clause-light : goal.backups_at-requires-clause-light
backups_at-requires-clause-light c =
    let a = c.args in
    point-light a.c.states a.given.now a.i c.point_weights-p.ensures c.requires.roof.valid.few_states c.requires.point

pub returns : goal.returns
returns c =
    let a = c.args in
    allowed _ (point_at a.c.states a.given.now a.i c.point_weights-p.ensures) c.backups_at.ensures
