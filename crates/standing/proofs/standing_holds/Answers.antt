use Rattle.std.proofs.Common.{◌≡◌, ℕ, ◌≤◌, List, ℤ, sym, ◌∙◌, arith}
use Rattle.tables.specs.declared.Counts.{Counts}
use Rattle.refusals.specs.Verdicts.{Fine}
use Rattle.tables.specs.Limits.{max_states, max_actions}
use Rattle.tables.specs.Storage.{tables_in}
use Rattle.tables.specs.Judged.{tables_verdict}
use Rattle.refusals.proofs.Refusals.{err-refused, err-fine}
use Rattle.tables.proofs.Accepted.{tables-valid}
use Rattle.standing.proofs.Stages.{counts-few}
use Rattle.standing.proofs.Passed.{tables-refused, state-short, number-high, counts-refused, unreadable, no_action}
use Rattle.standing.proofs.Passed.{ranges-refused, totals-refused, informed-refused, qmdp-left}
use Rattle.standing.proofs.standing_holds.Goals as goal

pub returns-then-is_err : goal.returns-then-is_err
returns-then-is_err c choices = tables-refused _ _ (err-refused c.judge_tables.ensures c.is_err.ensures.value c.if-is_err.true)

pub returns-then-state-lt-SIZE : goal.returns-then-state-lt-SIZE
returns-then-state-lt-SIZE c choices = state-short _ _ (err-fine c.judge_tables.ensures c.is_err.ensures.value c.if-is_err.false) c.if-state-lt-SIZE.true

pub returns-then-s-gt-LEVELS : goal.returns-then-s-gt-LEVELS
returns-then-s-gt-LEVELS c choices =
    number-high _ _ (err-fine c.judge_tables.ensures c.is_err.ensures.value c.if-is_err.false) c.if-state-lt-SIZE.false c.standing_in-s.ensures
    c.if-s-gt-LEVELS.true

pub returns-then-not-counts_hold : goal.returns-then-not-counts_hold
returns-then-not-counts_hold c choices =
    counts-refused _ _ (err-fine c.judge_tables.ensures c.is_err.ensures.value c.if-is_err.false) c.if-state-lt-SIZE.false c.standing_in-s.ensures
    c.if-s-gt-LEVELS.false
    (sym c.counts_hold.ensures ∙ c.if-not-counts_hold.true)

pub returns-then-not-readable : goal.returns-then-not-readable
returns-then-not-readable c choices =
    unreadable _ _ (err-fine c.judge_tables.ensures c.is_err.ensures.value c.if-is_err.false) c.if-state-lt-SIZE.false c.standing_in-s.ensures
    c.if-s-gt-LEVELS.false
    (sym c.counts_hold.ensures ∙ c.if-not-counts_hold.false) (sym c.readable.ensures ∙ c.if-not-readable.true)

pub returns-then-not-actions_exist : goal.returns-then-not-actions_exist
returns-then-not-actions_exist c choices =
    no_action _ _ (err-fine c.judge_tables.ensures c.is_err.ensures.value c.if-is_err.false) c.if-state-lt-SIZE.false c.standing_in-s.ensures
    c.if-s-gt-LEVELS.false
    (sym c.counts_hold.ensures ∙ c.if-not-counts_hold.false) (sym c.readable.ensures ∙ c.if-not-readable.false)
    (sym c.actions_exist.ensures ∙ c.if-not-actions_exist.true)

pub returns-then-is_err-2 : goal.returns-then-is_err-2
returns-then-is_err-2 c choices =
    ranges-refused _ _ (err-fine c.judge_tables.ensures c.is_err.ensures.value c.if-is_err.false) c.if-state-lt-SIZE.false c.standing_in-s.ensures
    c.if-s-gt-LEVELS.false
    (sym c.counts_hold.ensures ∙ c.if-not-counts_hold.false) (sym c.readable.ensures ∙ c.if-not-readable.false)
    (sym c.actions_exist.ensures ∙ c.if-not-actions_exist.false) (err-refused c.ranges_hold.ensures c.is_err-2.ensures.value c.if-is_err-2.true)

pub returns-then-is_err-3 : goal.returns-then-is_err-3
returns-then-is_err-3 c choices =
    totals-refused _ _ (err-fine c.judge_tables.ensures c.is_err.ensures.value c.if-is_err.false) c.if-state-lt-SIZE.false c.standing_in-s.ensures
    c.if-s-gt-LEVELS.false
    (sym c.counts_hold.ensures ∙ c.if-not-counts_hold.false) (sym c.readable.ensures ∙ c.if-not-readable.false)
    (sym c.actions_exist.ensures ∙ c.if-not-actions_exist.false) (err-fine c.ranges_hold.ensures c.is_err-2.ensures.value c.if-is_err-2.false)
    (err-refused c.weights_hold.ensures c.is_err-3.ensures.value c.if-is_err-3.true)

pub returns-then-not-rows_hold : goal.returns-then-not-rows_hold
returns-then-not-rows_hold c choices =
    informed-refused _ _ (err-fine c.judge_tables.ensures c.is_err.ensures.value c.if-is_err.false) c.if-state-lt-SIZE.false c.standing_in-s.ensures
    c.if-s-gt-LEVELS.false
    (sym c.counts_hold.ensures ∙ c.if-not-counts_hold.false) (sym c.readable.ensures ∙ c.if-not-readable.false)
    (sym c.actions_exist.ensures ∙ c.if-not-actions_exist.false) (err-fine c.ranges_hold.ensures c.is_err-2.ensures.value c.if-is_err-2.false)
    (err-fine c.weights_hold.ensures c.is_err-3.ensures.value c.if-is_err-3.false) (sym c.rows_hold.ensures ∙ c.if-not-rows_hold.true)

pub returns : goal.returns
returns c choices =
    qmdp-left _ _ (err-fine c.judge_tables.ensures c.is_err.ensures.value c.if-is_err.false) c.if-state-lt-SIZE.false c.standing_in-s.ensures
    c.if-s-gt-LEVELS.false
    (sym c.counts_hold.ensures ∙ c.if-not-counts_hold.false) (sym c.readable.ensures ∙ c.if-not-readable.false)
    (sym c.actions_exist.ensures ∙ c.if-not-actions_exist.false) (err-fine c.ranges_hold.ensures c.is_err-2.ensures.value c.if-is_err-2.false)
    (err-fine c.weights_hold.ensures c.is_err-3.ensures.value c.if-is_err-3.false) (sym c.rows_hold.ensures ∙ c.if-not-rows_hold.false) c.rows_hold-2.ensures

-- ---- what the calls ask

-- the limits that accepted tables keep to
within : (c : Counts) (T O : List ℕ) (R : List ℤ) → tables_verdict (tables_in c T O R) ≡ Fine → (c.states ≤ max_states) × (c.actions ≤ max_actions)
within c T O R e = let v = tables-valid (tables_in c T O R) e in (v.few_states, v.few_actions)

pub readable-requires : goal.readable-requires
readable-requires c = (
  (within c.args.c c.args.transition.now c.args.observation.now c.args.reward.now (err-fine c.judge_tables.ensures c.is_err.ensures.value c.if-is_err.false)).0,
  counts-few c.standing_in-s.result.vectors c.standing_in-s.result.points (sym c.counts_hold.ensures ∙ c.if-not-counts_hold.false),
)

pub ranges_hold-requires-clause-n_le_max_states : goal.ranges_hold-requires-clause-n_le_max_states
ranges_hold-requires-clause-n_le_max_states c = (
  (within c.args.c c.args.transition.now c.args.observation.now c.args.reward.now (err-fine c.judge_tables.ensures c.is_err.ensures.value c.if-is_err.false)).0,
  (omega arith, counts-few c.standing_in-s.result.vectors c.standing_in-s.result.points (sym c.counts_hold.ensures ∙ c.if-not-counts_hold.false)),
)

pub weights_hold-requires-clause-n_le_max_states : goal.weights_hold-requires-clause-n_le_max_states
weights_hold-requires-clause-n_le_max_states c = (
  (within c.args.c c.args.transition.now c.args.observation.now c.args.reward.now (err-fine c.judge_tables.ensures c.is_err.ensures.value c.if-is_err.false)).0,
  (counts-few c.standing_in-s.result.vectors c.standing_in-s.result.points (sym c.counts_hold.ensures ∙ c.if-not-counts_hold.false)).1,
)

pub rows_hold-requires : goal.rows_hold-requires
rows_hold-requires c =
    let w = within c.args.c c.args.transition.now c.args.observation.now c.args.reward.now (err-fine c.judge_tables.ensures c.is_err.ensures.value
    c.if-is_err.false) in
    (w.1, (w.0, c.if-s-gt-LEVELS.false))

pub rows_hold-requires-2 : goal.rows_hold-requires-2
rows_hold-requires-2 c =
    let w = within c.args.c c.args.transition.now c.args.observation.now c.args.reward.now (err-fine c.judge_tables.ensures c.is_err.ensures.value
    c.if-is_err.false) in
    (w.1, (w.0, c.if-s-gt-LEVELS.false))
