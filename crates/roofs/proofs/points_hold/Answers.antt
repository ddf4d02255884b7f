use Rattle.roofs.proofs.Prelude.{◌≡◌, ◌<◌, ◌^◌, sym, ◌∙◌, arith, rules, mag, pos, get_or, back, model_in, first-none, first_more, first-here, covers_backups}
use Rattle.roofs.proofs.Prelude.{passed, failed, covers-said, Level, ceiling_in, CeilingOf}
use Rattle.levels.specs.Storage.{point_in}
use Rattle.levels.specs.Judged.{points_verdict}
use Rattle.roofs.proofs.points_hold.Goals as goal
use Rattle.roofs.proofs.points_hold.Goals.{After-covers}

-- the answer, by the point's value
said : (c : After-covers) (L : Level) → let a = c.args in
    CeilingOf a.c.states (ceiling_in a.c.states a.corners.now a.weights.now a.gains.now a.points) L
    → c.covers.result
    ≡ covers_backups (model_in a.c a.transition.now a.observation.now a.reward.now) L (point_in a.c.states a.offered.now c.loop-i.i)
    (get_or a.at.now c.loop-i.i (pos 0))
said c L is =
    let fits : mag (get_or c.args.at.now c.loop-i.i (pos 0)) < 2 ^ 63 = search rules in
    covers-said c.at_point-backups.ensures L is (back _ fits) c.covers.ensures

pub loop-i-init : goal.loop-i-init
loop-i-init c L is = first-none _

pub returns-then-not-covers : goal.returns-then-not-covers
unfolding points_verdict
returns-then-not-covers c L is =
    sym (first-here _ _ c.loop-i.i (omega arith) (c.loop-i.invariant L is)
    (failed _ _ (sym (said (goal.at.returns-then-not-covers c).After-covers L is) ∙ c.if-not-covers.true)))

pub loop-i-preserved : goal.loop-i-preserved
loop-i-preserved c L is =
    first_more _ _ (c.loop-i.invariant L is) (passed _ _ (sym (said (goal.at.loop-i-preserved c).After-covers L is) ∙ c.if-not-covers.false))

pub returns : goal.returns
unfolding points_verdict
returns c L is = let e : c.loop-i.i ≡ c.args.count = omega arith in sym (rw e at (c.loop-i.invariant L is))
