use Rattle.stated.proofs.Prelude.{◌≡◌, sym, ◌∙◌, first-none, first_more, first-here}
use Rattle.levels.proofs.Laws.{passed, failed}
use Rattle.stated.proofs.Choices.{chooses-said, reached-said}
use Rattle.stated.proofs.masks_hold.Invariants.{keeps}
use Rattle.stated.proofs.masks_hold.Goals as goal
use Rattle.stated.proofs.masks_hold.Goals.{After-reached_covered}

-- the answer, by the vector's own number
said : (c : After-reached_covered) → let a = c.args in
    c.reached_covered.result
    ≡ keeps a.transition.now a.observation.now a.masks.now a.t a.alpha.now a.graph.now a.c.states a.c.observations c.loop-v.v
said c =
    let a = c.args in
    c.reached_covered.ensures ∙ reached-said c.said_at-x.ensures a.transition.now a.observation.now a.masks.now c.all-all.ensures

pub loop-v-init : goal.loop-v-init
loop-v-init c = (c.requires.files.start, first-none _)

pub reached_covered-requires-clause-chooses : goal.reached_covered-requires-clause-chooses
reached_covered-requires-clause-chooses c =
    chooses-said c.said_at-x.ensures c.requires.files.few_observations (c.requires.chooses c.loop-v.v c.loop-v-test.true)

pub returns-then-not-reached_covered : goal.returns-then-not-reached_covered
returns-then-not-reached_covered c =
    let e = said (goal.at.returns-then-not-reached_covered c).After-reached_covered in
    let v = c.loop-v.v in
    sym (first-here _ _ v c.loop-v-test.true c.loop-v.invariant.1 (failed 21 v (sym e ∙ c.if-not-reached_covered.true)))

pub loop-v-preserved : goal.loop-v-preserved
loop-v-preserved c =
    let e = said (goal.at.loop-v-preserved c).After-reached_covered in
    let v = c.loop-v.v in
    (c.said_at-x.ensures.onward, first_more _ v c.loop-v.invariant.1 (passed 21 v (sym e ∙ c.if-not-reached_covered.false)))
