use Rattle.std.specs.Prelude.{Result}
use Rattle.bounds.proofs.Prelude.{ℕ, ◌≡◌, sym, ◌∙◌}
use Rattle.integers.proofs.Kit.{List, [], rules}
use Rattle.tables.specs.Tables.{Tables}
use Rattle.tables.specs.Storage.{tables_in}
use Rattle.levels.specs.Storage.{Lent, cells, rows, lent, standing_at}
use Rattle.refusals.specs.declared.Refusal.{Refusal}
use Rattle.refusals.specs.Verdicts.{Fine}
use Rattle.backups.specs.Steps.{Roofed}
use Rattle.backups.proofs.Roofs.{corners_fit, points_fit, values-fit}
use Rattle.runs.specs.declared.Bounds.{Bounds}
use Rattle.runs.specs.State.{totals_of, standing_verdict}
use Rattle.runs.proofs.Demand3.{totals-demand}
use Rattle.bounds.proofs.Bounds.{stands, Gained, roofed, asked, standing-holds, refused, answered}
use Rattle.bounds.proofs.totals.Goals as goal
use Rattle.bounds.proofs.totals.Goals.{Start, In_ok-judge_standing}

-- what is lent
abbrev tables : Start → Tables
tables c = tables_in c.args.c c.args.transition.now c.args.observation.now c.args.reward.now

abbrev certifier : Start → List ℕ → Lent
certifier c choices =
    let a = c.args in
    lent a.state.now (cells a.actions.now choices a.masks.now a.entries.now a.corners.now a.weights.now a.values.now)
    (rows a.informed.now a.qmdp.now)

-- what the contract says of an answer first
abbrev Said : Start → Result Bounds Refusal → Type 0
Said s r = (choices : List ℕ) → r ≡ totals_of (tables s) (certifier s choices) s.args.mixture.now

-- ---- what is known once it stands
held : (c : In_ok-judge_standing) (choices : List ℕ)
    → let s = (goal.at.In_ok-judge_standing c).Start in standing_verdict (tables s) (certifier s choices) ≡ Fine
held c choices = sym (c.judge_standing.ensures choices) ∙ c.in_ok-judge_standing.was

is-roofed : (c : In_ok-judge_standing) → let a = c.args in let s = (goal.at.In_ok-judge_standing c).Start in
    Roofed a.c a.transition.now a.observation.now a.reward.now a.corners.now (standing_at a.state.now).points a.weights.now a.values.now
is-roofed c =
    let s = (goal.at.In_ok-judge_standing c).Start in
    roofed (tables s) (certifier s []) (standing-holds (tables s) (certifier s []) (held c []))

pub returns-in_err-judge_standing : goal.returns-in_err-judge_standing
returns-in_err-judge_standing c =
    let s = (goal.at.returns-in_err-judge_standing c).Start in
    let e : Said s c.from_residual.result = λ choices. rw (refused (tables s) (certifier s choices) s.args.mixture.now
    (sym (c.judge_standing.ensures choices) ∙ c.in_err-judge_standing.was)) (search rules) in
    λ choices. (e choices, totals-demand (tables s) (certifier s choices) s.args.mixture.now _ (e choices))

pub standing_in-s-requires : goal.standing_in-s-requires
standing_in-s-requires c =
    let f = (goal.at.standing_in-s-requires c).In_ok-judge_standing in
    let s = (goal.at.In_ok-judge_standing f).Start in
    (stands (tables s) (certifier s []) (standing-holds (tables s) (certifier s []) (held f []))).state-long

pub gains-gains-requires-clause-n_le_max_states : goal.gains-gains-requires-clause-n_le_max_states
gains-gains-requires-clause-n_le_max_states c = (is-roofed (goal.at.gains-gains-requires-clause-n_le_max_states c).In_ok-judge_standing).valid.few_states

pub gains-gains-requires-clause-corners_fit : goal.gains-gains-requires-clause-corners_fit
gains-gains-requires-clause-corners_fit c = corners_fit (is-roofed (goal.at.gains-gains-requires-clause-corners_fit c).In_ok-judge_standing)

pub gains-gains-requires-clause-points_fit : goal.gains-gains-requires-clause-points_fit
gains-gains-requires-clause-points_fit c =
    rw c.standing_in-s.ensures (points_fit (is-roofed (goal.at.gains-gains-requires-clause-points_fit c).In_ok-judge_standing))

pub gains-gains-requires-clause-values_fit : goal.gains-gains-requires-clause-values_fit
gains-gains-requires-clause-values_fit c =
    rw c.standing_in-s.ensures (values-fit (is-roofed (goal.at.gains-gains-requires-clause-values_fit c).In_ok-judge_standing))

pub answer-requires : goal.answer-requires
answer-requires c =
    let f = (goal.at.answer-requires c).In_ok-judge_standing in
    let s = (goal.at.In_ok-judge_standing f).Start in
    rw c.standing_in-s.ensures (asked (tables s) (certifier s []) (standing-holds (tables s) (certifier s []) (held f []))
    (rw c.standing_in-s.ensures at c.gains-gains.ensures))

pub returns : goal.returns
returns c =
    let f = (goal.at.returns c).In_ok-judge_standing in
    let s = (goal.at.In_ok-judge_standing f).Start in
    let gained : Gained (tables s) (certifier s []) c.gains-gains.result = rw c.standing_in-s.ensures at c.gains-gains.ensures in
    let e : Said s c.answer.result = λ choices. rw c.standing_in-s.ensures at c.answer.ensures
    ∙ answered (tables s) (certifier s choices) s.args.mixture.now (held f choices) gained in
    λ choices. (e choices, totals-demand (tables s) (certifier s choices) s.args.mixture.now _ (e choices))
