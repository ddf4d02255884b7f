use Rattle.backups.proofs.Roofs.{corners_fit, points_fit, values-fit, roof-is, roof-holds}
use Rattle.roofing.proofs.build_roof.Goals as goal

pub gains-gains-requires-clause-corners_fit : goal.gains-gains-requires-clause-corners_fit
gains-gains-requires-clause-corners_fit c = corners_fit c.requires.roofed

pub gains-gains-requires-clause-points_fit : goal.gains-gains-requires-clause-points_fit
gains-gains-requires-clause-points_fit c = points_fit c.requires.roofed

pub gains-gains-requires-clause-values_fit : goal.gains-gains-requires-clause-values_fit
gains-gains-requires-clause-values_fit c = values-fit c.requires.roofed

pub build_corners-requires-clause-roof : goal.build_corners-requires-clause-roof
build_corners-requires-clause-roof c = roof-holds c.requires.roofed c.gains-gains.ensures

pub build_values-requires-clause-roof : goal.build_values-requires-clause-roof
build_values-requires-clause-roof c = roof-holds c.requires.roofed c.gains-gains.ensures

pub returns-clause-least_after : goal.returns-clause-least_after
returns-clause-least_after c = c.build_corners.ensures _ (roof-is c.requires.roofed c.gains-gains.ensures)

pub returns-clause-worths_after : goal.returns-clause-worths_after
returns-clause-worths_after c = c.build_values.ensures _ (roof-is c.requires.roofed c.gains-gains.ensures)
