use Rattle.integers.proofs.Kit.{sym}
use Rattle.tables.specs.Limits.{max_vectors}
use Rattle.tables.specs.Storage.{tables_in}
use Rattle.refusals.proofs.Refusals.{breaks, passes}
use Rattle.levels.specs.Storage.{cells, rows, lent}
use Rattle.runs.proofs.Judged.{standing-true}
use Rattle.blocks.specs.Blocks.{replay_verdict}
use Rattle.blocks.proofs.judge_list.Goals as goal

pub returns-then-not-standing_holds : goal.returns-then-not-standing_holds
unfolding replay_verdict
returns-then-not-standing_holds c = λ choices. breaks _ (sym (c.if-not-standing_holds.ensures choices))

-- what is lent is valid, whatever the choices are
pub blocks_fit-requires : goal.blocks_fit-requires
blocks_fit-requires c =
    let a = c.args in
    let none = a.actions.now in
    let x = lent a.state.now (cells a.actions.now none a.masks.now a.entries.now a.corners.now a.weights.now a.values.now) (rows a.informed.now a.qmdp.now) in
    let m = tables_in a.c a.transition.now a.observation.now a.reward.now in
    let v = (standing-true max_vectors m x (sym (c.if-not-standing_holds.ensures none))).valid-tables in
    (v.few_states, v.few_observations)

pub returns-then-not-blocks_fit : goal.returns-then-not-blocks_fit
unfolding replay_verdict
returns-then-not-blocks_fit c = λ choices. passes 7 0 (sym (c.if-not-standing_holds.ensures choices)) (rw (sym c.if-not-blocks_fit.ensures))

pub returns : goal.returns
unfolding replay_verdict
returns c = λ choices. passes 7 0 (sym (c.if-not-standing_holds.ensures choices)) (rw (sym c.if-not-blocks_fit.ensures))
