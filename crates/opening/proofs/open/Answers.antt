use Rattle.integers.proofs.Kit.{◌∙◌, ap, sym, ◌∷◌, drop}
use Rattle.std.proofs.lemmas.Result.{err_from_is_err_and}
use Rattle.tables.specs.Storage.{tables_in}
use Rattle.tables.proofs.Accepted.{tables-valid}
use Rattle.plans.specs.Level.{level0}
use Rattle.levels.specs.declared.Standing.{Standing}
use Rattle.levels.specs.Storage.{state_size, cells, rows, lent}
use Rattle.runs.specs.State.{open_verdict}
use Rattle.runs.proofs.Reached.{fine-tables}
use Rattle.opening.proofs.Opened.{opened-refused, opened-fine}
use Rattle.opening.proofs.open.Goals as goal

pub returns-in_err-judge_open : goal.returns-in_err-judge_open
unfolding open_verdict level0
returns-in_err-judge_open c =
    let a = c.args in
    let m = tables_in a.c a.transition.now a.observation.now a.reward.now in
    let x = lent a.state.now (cells a.actions.now a.choices.now a.masks.now a.entries.now a.corners.now a.weights.now a.values.now)
    (rows a.informed.now a.qmdp.now) in
    let p = err_from_is_err_and c.from_residual.result c.from_residual.ensures.1 in
    let refused = c.in_err-judge_open.ensures in
    rw (p.1, p.2) (refused, opened-refused m x refused)

pub lay_level_0-requires-clause-n_nonzero : goal.lay_level_0-requires-clause-n_nonzero
unfolding open_verdict level0
lay_level_0-requires-clause-n_nonzero c =
    let a = c.args in
    let m = tables_in a.c a.transition.now a.observation.now a.reward.now in
    let x = lent a.state.now (cells a.actions.now a.choices.now a.masks.now a.entries.now a.corners.now a.weights.now a.values.now)
    (rows a.informed.now a.qmdp.now) in
    let v = tables-valid m (fine-tables m x (sym c.in_ok-judge_open.ensures)) in
    (v.some_states, (v.few_states, v.few_observations))

pub returns : goal.returns
unfolding open_verdict level0
returns c =
    let a = c.args in
    let m = tables_in a.c a.transition.now a.observation.now a.reward.now in
    let x = lent a.state.now (cells a.actions.now a.choices.now a.masks.now a.entries.now a.corners.now a.weights.now a.values.now)
    (rows a.informed.now a.qmdp.now) in
    let written = c.put_standing.ensures
    ∙ ap (λ (s : Standing). s.number ∷ s.vectors ∷ s.points ∷ drop state_size a.state.now) c.fresh.ensures in
    let l = c.lay_level_0.ensures in (
      c.in_ok-judge_open.ensures,
      opened-fine m x c.in_ok-judge_open.ensures written l.actions_after l.choices_after l.masks_after l.entries_after
          l.corners_after c.clear.ensures c.clear-2.ensures,
    )
