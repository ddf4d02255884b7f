use Rattle.integers.proofs.Kit.{◌≡◌, sym, ◌∙◌, rules, []}
use Rattle.refusals.specs.Verdicts.{Fine}
use Rattle.tables.specs.Storage.{tables_in}
use Rattle.levels.specs.Storage.{cells, rows, lent}
use Rattle.runs.specs.State.{standing_verdict}
use Rattle.bounds.proofs.Bounds.{stands, standing-holds}
use Rattle.intervals.specs.Intervals.{within_of}
use Rattle.intervals.proofs.Answers.{asked, refused, answered}
use Rattle.intervals.proofs.Claim.{within-demand}
use Rattle.intervals.proofs.totals_within.Goals as goal

pub returns-in_err-judge_standing : goal.returns-in_err-judge_standing
returns-in_err-judge_standing c choices =
    let a = c.args in
    let m = tables_in a.c a.transition.now a.observation.now a.reward.now in
    let x = lent a.state.now (cells a.actions.now choices a.masks.now a.entries.now a.corners.now a.weights.now a.values.now)
    (rows a.informed.now a.qmdp.now) in
    let e : c.from_residual.result ≡ within_of m x a.lows.now a.highs.now =
    rw (refused m x a.lows.now a.highs.now (sym (c.judge_standing.ensures choices) ∙ c.in_err-judge_standing.was)) (search rules) in
    (e, within-demand m x a.lows.now a.highs.now _ e)

pub standing_in-s-requires : goal.standing_in-s-requires
standing_in-s-requires c =
    let a = c.args in
    let m = tables_in a.c a.transition.now a.observation.now a.reward.now in
    let x = lent a.state.now (cells a.actions.now [] a.masks.now a.entries.now a.corners.now a.weights.now a.values.now)
    (rows a.informed.now a.qmdp.now) in
    (stands m x (standing-holds m x (sym (c.judge_standing.ensures []) ∙ c.in_ok-judge_standing.was))).state-long

pub answer-requires : goal.answer-requires
answer-requires c =
    let a = c.args in
    let m = tables_in a.c a.transition.now a.observation.now a.reward.now in
    let x = lent a.state.now (cells a.actions.now [] a.masks.now a.entries.now a.corners.now a.weights.now a.values.now)
    (rows a.informed.now a.qmdp.now) in
    rw c.standing_in-s.ensures (asked m x (standing-holds m x (sym (c.judge_standing.ensures []) ∙ c.in_ok-judge_standing.was)))

pub returns : goal.returns
returns c choices =
    let a = c.args in
    let m = tables_in a.c a.transition.now a.observation.now a.reward.now in
    let x = lent a.state.now (cells a.actions.now choices a.masks.now a.entries.now a.corners.now a.weights.now a.values.now)
    (rows a.informed.now a.qmdp.now) in
    let held : standing_verdict m x ≡ Fine = sym (c.judge_standing.ensures choices) ∙ c.in_ok-judge_standing.was in
    let e : c.answer.result ≡ within_of m x a.lows.now a.highs.now =
    rw c.standing_in-s.ensures at c.answer.ensures ∙ answered m x a.lows.now a.highs.now held in
    (e, within-demand m x a.lows.now a.highs.now _ e)
