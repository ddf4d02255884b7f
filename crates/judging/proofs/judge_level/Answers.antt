use Rattle.integers.proofs.Kit.{◌≡◌, ◌∙◌, rules}
use Rattle.refusals.proofs.Refusals.{stops, goes}
use Rattle.levels.specs.Storage.{level_in}
use Rattle.levels.specs.Judged.{ranges_verdict, level_verdict}
use Rattle.standing.proofs.Stages.{ranges-read}
use Rattle.judging.proofs.judge_level.Goals as goal
use Rattle.judging.proofs.judge_level.Goals.{After-ranges_hold}

-- 11, of the level as it is offered
ranges-said : (c : After-ranges_hold) → let a = c.args in
    c.ranges_hold.result
    ≡ ranges_verdict a.c.states a.t
    (level_in a.c.states a.c.observations a.vectors a.actions.now a.choices.now a.masks.now a.entries.now a.corners.now
    a.points a.weights.now a.values.now)
ranges-said c =
    let a = c.args in
    c.ranges_hold.ensures
    ∙ ranges-read a.c.states a.c.observations a.t a.vectors a.points a.actions.now a.choices.now a.masks.now a.entries.now
    a.corners.now a.weights.now a.values.now

pub returns-in_err-numbers_exist : goal.returns-in_err-numbers_exist
unfolding level_verdict
returns-in_err-numbers_exist c =
    let same : c.from_residual.result ≡ c.numbers_exist.result = search rules in
    same ∙ stops _ c.numbers_exist.ensures c.in_err-numbers_exist.was

pub returns-in_err-ranges_hold : goal.returns-in_err-ranges_hold
unfolding level_verdict
returns-in_err-ranges_hold c =
    let same : c.from_residual-in_err-ranges_hold.result ≡ c.ranges_hold.result = search rules in
    same
    ∙ goes c.numbers_exist.ensures c.in_ok-numbers_exist.was
    (stops _ (ranges-said (goal.at.returns-in_err-ranges_hold c).After-ranges_hold) c.in_err-ranges_hold.was)

pub returns : goal.returns
unfolding level_verdict
returns c =
    goes c.numbers_exist.ensures c.in_ok-numbers_exist.was
    (goes (ranges-said (goal.at.returns c).After-ranges_hold) c.in_ok-ranges_hold.was c.weights_hold.ensures)
