use Rattle.tables.specs.Storage.{tables_in}
use Rattle.runs.specs.Demand3.{PointsHold}
use Rattle.climbing.specs.Climb.{blank_cells, blank, lent_of}
use Rattle.climbing.proofs.Climbing.{Climbed}
use Rattle.ascent.proofs.levels_of.Given as goal

abbrev pub invariant-loop-t : goal.invariant-loop-t
invariant-loop-t g l = record {
  climbed : Climbed l.t (tables_in l.c l.transition l.observation l.reward) (lent_of l.h);
  points : PointsHold (tables_in l.c l.transition l.observation l.reward) blank 1 (blank_cells l.point);
}
