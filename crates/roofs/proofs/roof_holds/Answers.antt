use Rattle.roofs.proofs.Prelude.{◌≡◌, ◌∙◌, rules, model_in}
use Rattle.refusals.proofs.Refusals.{stops, goes}
use Rattle.levels.specs.Storage.{roof_in}
use Rattle.levels.specs.Judged.{corners_verdict, points_verdict}
use Rattle.backups.proofs.Roofs.{corners_fit, points_fit, values-fit, roof-is, roof-holds}
use Rattle.roofs.proofs.roof_holds.Goals as goal
use Rattle.roofs.proofs.roof_holds.Goals.{After-corners_hold}

pub gains-gains-requires-clause-corners_fit : goal.gains-gains-requires-clause-corners_fit
gains-gains-requires-clause-corners_fit c = corners_fit c.requires.roofed

pub gains-gains-requires-clause-points_fit : goal.gains-gains-requires-clause-points_fit
gains-gains-requires-clause-points_fit c = points_fit c.requires.roofed

pub gains-gains-requires-clause-values_fit : goal.gains-gains-requires-clause-values_fit
gains-gains-requires-clause-values_fit c = values-fit c.requires.roofed

pub corners_hold-requires-clause-roof : goal.corners_hold-requires-clause-roof
corners_hold-requires-clause-roof c = roof-holds c.requires.roofed c.gains-gains.ensures

pub corners_hold-requires-clause-corners_fit : goal.corners_hold-requires-clause-corners_fit
corners_hold-requires-clause-corners_fit c = corners_fit c.requires.roofed_2

-- 14, of the standing level
corners-said : (c : After-corners_hold) → let a = c.args in
    c.corners_hold.result
    ≡ corners_verdict (model_in a.c a.transition.now a.observation.now a.reward.now)
    (roof_in a.c.states a.corners.now a.points a.weights.now a.values.now)
    (roof_in a.c.states a.newcorners.now a.count a.newweights.now a.newvalues.now)
unfolding corners_verdict
corners-said c = c.corners_hold.ensures _ (roof-is c.requires.roofed c.gains-gains.ensures)

pub returns-in_err-corners_hold : goal.returns-in_err-corners_hold
returns-in_err-corners_hold c =
    let same : c.from_residual.result ≡ c.corners_hold.result = search rules in
    same ∙ stops _ (corners-said (goal.at.returns-in_err-corners_hold c).After-corners_hold) c.in_err-corners_hold.was

pub points_hold-requires-clause-roof : goal.points_hold-requires-clause-roof
points_hold-requires-clause-roof c = roof-holds c.requires.roofed c.gains-gains.ensures

pub points_hold-requires-clause-points_fit : goal.points_hold-requires-clause-points_fit
points_hold-requires-clause-points_fit c = points_fit c.requires.roofed_2

pub points_hold-requires-clause-values_fit : goal.points_hold-requires-clause-values_fit
points_hold-requires-clause-values_fit c = values-fit c.requires.roofed_2

pub returns : goal.returns
unfolding points_verdict
returns c =
    goes (corners-said (goal.at.returns c).After-corners_hold) c.in_ok-corners_hold.was
    (c.points_hold.ensures _ (roof-is c.requires.roofed c.gains-gains.ensures))
