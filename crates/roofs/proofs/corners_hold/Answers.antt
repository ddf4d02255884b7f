use Rattle.roofs.proofs.Prelude.{◌≡◌, ◌<◌, ◌^◌, sym, ◌∙◌, arith, rules, mag, pos, get_or, back, model_in, first-none, first_more, first-here, covers_backups}
use Rattle.roofs.proofs.Prelude.{passed, failed, covers-said, Level, ceiling_in, CeilingOf}
use Rattle.plans.specs.Level.{corner_weight}
use Rattle.levels.specs.Storage.{corner_in}
use Rattle.levels.specs.Judged.{corners_verdict}
use Rattle.roofs.proofs.corners_hold.Goals as goal
use Rattle.roofs.proofs.corners_hold.Goals.{After-covers}

-- the answer, by the corner's value
said : (c : After-covers) (L : Level) → let a = c.args in
    CeilingOf a.c.states (ceiling_in a.c.states a.corners.now a.weights.now a.gains.now a.points) L
    → c.covers.result
    ≡ covers_backups (model_in a.c a.transition.now a.observation.now a.reward.now) L (corner_weight c.loop-s.s) (corner_in a.offered.now c.loop-s.s)
said c L is =
    let fits : mag (get_or c.args.offered.now c.loop-s.s (pos 0)) < 2 ^ 63 = search rules in
    covers-said c.at_corner-backups.ensures L is (back _ fits) c.covers.ensures

pub loop-s-init : goal.loop-s-init
loop-s-init c L is = first-none _

pub returns-then-not-covers : goal.returns-then-not-covers
unfolding corners_verdict
returns-then-not-covers c L is =
    sym (first-here _ _ c.loop-s.s (omega arith) (c.loop-s.invariant L is)
    (failed _ _ (sym (said (goal.at.returns-then-not-covers c).After-covers L is) ∙ c.if-not-covers.true)))

pub loop-s-preserved : goal.loop-s-preserved
loop-s-preserved c L is =
    first_more _ _ (c.loop-s.invariant L is) (passed _ _ (sym (said (goal.at.loop-s-preserved c).After-covers L is) ∙ c.if-not-covers.false))

pub returns : goal.returns
unfolding corners_verdict
returns c L is = let e : c.loop-s.s ≡ c.args.c.states = omega arith in sym (rw e at (c.loop-s.invariant L is))
