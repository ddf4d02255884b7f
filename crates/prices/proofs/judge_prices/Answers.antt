use Rattle.integers.proofs.Kit.{◌≡◌, ◌∙◌, refl, sym, []}
use Rattle.std.proofs.lemmas.Result.{err_from_is_err_and}
use Rattle.tables.specs.Limits.{max_vectors}
use Rattle.refusals.specs.Verdicts.{Fine}
use Rattle.tables.specs.Storage.{tables_in}
use Rattle.tables.specs.Judged.{tables_verdict}
use Rattle.refusals.proofs.Refusals.{stops, goes, breaks, passes}
use Rattle.tables.proofs.Accepted.{tables-valid, tables-stored}
use Rattle.levels.specs.Storage.{cells, rows, lent}
use Rattle.runs.specs.Prices.{prices_verdict}
use Rattle.runs.proofs.Judged.{standing-true}
use Rattle.prices.proofs.Same.{chances, unpriced}
use Rattle.prices.proofs.judge_prices.Goals as goal

pub returns-then-not-standing_holds : goal.returns-then-not-standing_holds
unfolding prices_verdict
returns-then-not-standing_holds c choices = breaks _ (sym (c.standing_holds.ensures choices) ∙ c.if-not-standing_holds.true)

pub returns-in_err-judge_tables : goal.returns-in_err-judge_tables
unfolding prices_verdict
returns-in_err-judge_tables c choices =
    let p = err_from_is_err_and c.from_residual.result c.from_residual.ensures.1 in
    rw (p.1, p.2)
    (passes 7 0 (sym (c.standing_holds.ensures choices) ∙ c.if-not-standing_holds.false) (stops _ c.in_err-judge_tables.ensures refl))

pub plans_same-requires-clause-chances : goal.plans_same-requires-clause-chances
plans_same-requires-clause-chances c =
    let a = c.args in
    let m = tables_in a.c a.transition.now a.observation.now a.reward.now in
    let x = lent a.state.now (cells a.actions.now [] a.masks.now a.entries.now a.corners.now a.weights.now a.values.now)
    (rows a.informed.now a.qmdp.now) in
    let h = standing-true max_vectors m x (sym (c.standing_holds.ensures []) ∙ c.if-not-standing_holds.false) in
    chances a.c a.transition.now a.observation.now a.reward.now h.valid-tables h.stored-tables

pub plans_same-requires-clause-chances_2 : goal.plans_same-requires-clause-chances_2
plans_same-requires-clause-chances_2 c =
    let a = c.args in
    let m = tables_in a.new a.newtransition.now a.newobservation.now a.newreward.now in
    let fine : tables_verdict m ≡ Fine = sym c.in_ok-judge_tables.ensures in
    chances a.new a.newtransition.now a.newobservation.now a.newreward.now (tables-valid m fine) (tables-stored m fine)

pub returns-then-not-plans_same : goal.returns-then-not-plans_same
unfolding prices_verdict
returns-then-not-plans_same c choices =
    let a = c.args in
    let said = c.plans_same.ensures
    ∙ unpriced a.c a.new a.transition.now a.observation.now a.newtransition.now a.newobservation.now a.reward.now a.newreward.now in
    passes 7 0 (sym (c.standing_holds.ensures choices) ∙ c.if-not-standing_holds.false)
    (goes c.in_ok-judge_tables.ensures refl (rw (sym said ∙ c.if-not-plans_same.true)))

pub returns : goal.returns
unfolding prices_verdict
returns c choices =
    let a = c.args in
    let said = c.plans_same.ensures
    ∙ unpriced a.c a.new a.transition.now a.observation.now a.newtransition.now a.newobservation.now a.reward.now a.newreward.now in
    passes 7 0 (sym (c.standing_holds.ensures choices) ∙ c.if-not-standing_holds.false)
    (goes c.in_ok-judge_tables.ensures refl (rw (sym said ∙ c.if-not-plans_same.false)))
