use Rattle.integers.proofs.Kit.{◌∙◌, sym}
use Rattle.standing.proofs.Stages.{fails, holds_on}
use Rattle.runs.specs.Prices.{same_plans}
use Rattle.prices.proofs.Same.{counts-true, tables-same}
use Rattle.prices.proofs.plans_same.Goals as goal

pub returns-then-not-counts_same : goal.returns-then-not-counts_same
unfolding same_plans
returns-then-not-counts_same c = fails _ (sym c.counts_same.ensures ∙ c.if-not-counts_same.true)

pub returns-then-not-cells_same : goal.returns-then-not-cells_same
unfolding same_plans
returns-then-not-cells_same c =
    let a = c.args in
    let counted = sym c.counts_same.ensures ∙ c.if-not-counts_same.false in
    let e = counts-true a.c a.new counted in
    holds_on counted
    (fails _ (sym (c.cells_same.ensures
    ∙ tables-same a.c.actions a.c.states a.c.states a.new.states a.new.states a.transition.now a.newtransition.now e.states e.states)
    ∙ c.if-not-cells_same.true))

pub returns : goal.returns
unfolding same_plans
returns c =
    let a = c.args in
    let counted = sym c.counts_same.ensures ∙ c.if-not-counts_same.false in
    let e = counts-true a.c a.new counted in
    holds_on counted
    (holds_on
    (sym (c.cells_same.ensures
    ∙ tables-same a.c.actions a.c.states a.c.states a.new.states a.new.states a.transition.now a.newtransition.now e.states e.states)
    ∙ c.if-not-cells_same.false)
    (c.cells_same-2.ensures
    ∙ tables-same a.c.actions a.c.states a.c.observations a.new.states a.new.observations a.observation.now a.newobservation.now e.states
    e.observations))
