use Rattle.integers.proofs.Kit.{◌+◌}
use Rattle.tables.specs.Storage.{tables_in}
use Rattle.levels.specs.Storage.{cells, lent_for}
use Rattle.levels.proofs.Over.{Complete, complete-true}
use Rattle.builder.proofs.Levels.{level-made}
use Rattle.builder.proofs.build_level.Goals as goal

pub returns : goal.returns
returns c =
    let a = c.args in
    let tables = tables_in a.c a.transition.now a.observation.now a.reward.now in
    let lent = cells a.actions.now a.choices.now a.covers.now a.made.now a.least.now a.given.now a.worths.now in
    let fit : Complete tables (lent_for (a.c.states + a.count) a.count lent) = complete-true _ _ c.requires.worths_value in
    level-made tables a.vectors a.masks.now a.entries.now a.corners.now a.points a.weights.now a.values.now a.count
    lent fit.read.weights c.build_vectors.ensures c.build_roof.ensures.least_after c.build_roof.ensures.worths_after
