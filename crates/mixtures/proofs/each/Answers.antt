use Rattle.std.specs.Prelude.{Result}
use Rattle.integers.proofs.Kit.{◌≡◌, ◌∙◌, ap, sym, rules, true, List, [], ℕ, ◌<◌, ◌*◌, leb, length}
use Rattle.tables.specs.Tables.{Tables}
use Rattle.tables.specs.Storage.{tables_in, row_in}
use Rattle.levels.specs.declared.Standing.{Standing}
use Rattle.levels.specs.Storage.{Lent, cells, rows, lent, standing_at}
use Rattle.backups.specs.Steps.{Roofed}
use Rattle.backups.proofs.Roofs.{corners_fit, points_fit, values-fit}
use Rattle.refusals.specs.declared.Refusal.{Refusal}
use Rattle.refusals.specs.Verdicts.{Verdict, Fine, Refused}
use Rattle.levels.specs.Judged.{holds}
use Rattle.runs.specs.State.{standing_verdict, totals_of}
use Rattle.bounds.specs.Steps.{answer_in}
use Rattle.mixtures.specs.Each.{Answers, answers, each_verdict}
use Rattle.runs.specs.declared.Bounds.{Bounds}
use Rattle.bounds.proofs.Bounds.{stands, Gained, roofed, asked, standing-holds, answered}
use Rattle.mixtures.proofs.Answers.{enough, too_few, written_same, left_alone, refused-standing, refused-17, refused-9, given, all-written}
use Rattle.mixtures.proofs.each.Goals as goal
use Rattle.mixtures.proofs.each.Goals.{Start, In_ok-judge_standing, Else-mixtures-n, After-gains-gains}

-- what is lent
abbrev tables : Start → Tables
tables c = tables_in c.args.c c.args.transition.now c.args.observation.now c.args.reward.now

abbrev certifier : Start → List ℕ → Lent
certifier c choices =
    let a = c.args in
    lent a.state.now (cells a.actions.now choices a.masks.now a.entries.now a.corners.now a.weights.now a.values.now)
    (rows a.informed.now a.qmdp.now)

abbrev lent-for : Start → Answers
lent-for c = answers c.args.verdicts.now c.args.lower.now c.args.upper.now c.args.advice.now

-- ---- what each test says
held : (c : In_ok-judge_standing) (choices : List ℕ)
    → let s = (goal.at.In_ok-judge_standing c).Start in standing_verdict (tables s) (certifier s choices) ≡ Fine
held c choices = sym (c.judge_standing.ensures choices) ∙ c.in_ok-judge_standing.was

known : (c : In_ok-judge_standing) → let s = (goal.at.In_ok-judge_standing c).Start in holds (tables s) (certifier s []) ≡ true
known c = let s = (goal.at.In_ok-judge_standing c).Start in standing-holds (tables s) (certifier s []) (held c [])

some_states : (c : In_ok-judge_standing) → 0 < c.args.c.states
some_states c = let s = (goal.at.In_ok-judge_standing c).Start in (stands (tables s) (certifier s []) (known c)).valid-tables.some_states

is-roofed : (c : In_ok-judge_standing) → let a = c.args in
    Roofed a.c a.transition.now a.observation.now a.reward.now a.corners.now (standing_at a.state.now).points a.weights.now a.values.now
is-roofed c = let s = (goal.at.In_ok-judge_standing c).Start in roofed (tables s) (certifier s []) (known c)

packed : (c : Else-mixtures-n) → leb (c.args.count * c.args.c.states) (length c.args.mixtures.now) ≡ true
packed c = enough _ _ (some_states (goal.at.Else-mixtures-n c).In_ok-judge_standing) c.if-mixtures-n.false

gained : (c : After-gains-gains) → let s = (goal.at.After-gains-gains c).Start in Gained (tables s) (certifier s []) c.gains-gains.result
gained c = rw c.standing_in-s.ensures at c.gains-gains.ensures

-- what the contract says of the verdict
abbrev Said : Start → Verdict → Type 0
Said s v = (choices : List ℕ) → v ≡ each_verdict (tables s) (certifier s choices) s.args.mixtures.now s.args.count (lent-for s)

pub returns-in_err-judge_standing : goal.returns-in_err-judge_standing
returns-in_err-judge_standing c choices =
    let s = (goal.at.returns-in_err-judge_standing c).Start in
    let m = tables s in
    let x = certifier s choices in
    let e = refused-standing m x s.args.mixtures.now s.args.count (lent-for s)
    (sym (c.judge_standing.ensures choices) ∙ c.in_err-judge_standing.was) in
    (rw e (search rules), left_alone m x s.args.mixtures.now s.args.count (lent-for s) e)

pub nonzero_div-mixtures : goal.nonzero_div-mixtures
nonzero_div-mixtures c = some_states (goal.at.nonzero_div-mixtures c).In_ok-judge_standing

pub returns-then-mixtures-n : goal.returns-then-mixtures-n
returns-then-mixtures-n c =
    let k = (goal.at.returns-then-mixtures-n c).In_ok-judge_standing in
    let s = (goal.at.In_ok-judge_standing k).Start in
    let e : Said s (Refused 17 0) = λ choices. refused-17 (tables s) (certifier s choices) s.args.mixtures.now s.args.count (lent-for s)
    (c.judge_standing.ensures choices) c.in_ok-judge_standing.was (too_few _ _ (some_states k) c.if-mixtures-n.true) in
    λ choices. (e choices, left_alone (tables s) (certifier s choices) s.args.mixtures.now s.args.count (lent-for s) (sym (e choices)))

pub returns-then-not-room_for : goal.returns-then-not-room_for
returns-then-not-room_for c =
    let w = (goal.at.returns-then-not-room_for c).Else-mixtures-n in
    let s = (goal.at.Else-mixtures-n w).Start in
    let e : Said s (Refused 9 0) = λ choices. refused-9 (tables s) (certifier s choices) s.args.mixtures.now s.args.count (lent-for s)
    (c.judge_standing.ensures choices) c.in_ok-judge_standing.was (packed w) (sym c.if-not-room_for.ensures) in
    λ choices. (e choices, left_alone (tables s) (certifier s choices) s.args.mixtures.now s.args.count (lent-for s) (sym (e choices)))

pub standing_in-s-requires : goal.standing_in-s-requires
standing_in-s-requires c =
    let k = (goal.at.standing_in-s-requires c).In_ok-judge_standing in
    let s = (goal.at.In_ok-judge_standing k).Start in
    (stands (tables s) (certifier s []) (known k)).state-long

pub gains-gains-requires-clause-n_le_max_states : goal.gains-gains-requires-clause-n_le_max_states
gains-gains-requires-clause-n_le_max_states c = (is-roofed (goal.at.gains-gains-requires-clause-n_le_max_states c).In_ok-judge_standing).valid.few_states

pub gains-gains-requires-clause-corners_fit : goal.gains-gains-requires-clause-corners_fit
gains-gains-requires-clause-corners_fit c = corners_fit (is-roofed (goal.at.gains-gains-requires-clause-corners_fit c).In_ok-judge_standing)

pub gains-gains-requires-clause-points_fit : goal.gains-gains-requires-clause-points_fit
gains-gains-requires-clause-points_fit c =
    rw c.standing_in-s.ensures (points_fit (is-roofed (goal.at.gains-gains-requires-clause-points_fit c).In_ok-judge_standing))

pub gains-gains-requires-clause-values_fit : goal.gains-gains-requires-clause-values_fit
gains-gains-requires-clause-values_fit c =
    rw c.standing_in-s.ensures (values-fit (is-roofed (goal.at.gains-gains-requires-clause-values_fit c).In_ok-judge_standing))

pub write_answers-requires-clause-asked : goal.write_answers-requires-clause-asked
write_answers-requires-clause-asked c =
    let at = goal.at.write_answers-requires-clause-asked c in
    let s = at.Start in
    rw c.standing_in-s.ensures (asked (tables s) (certifier s []) (known at.In_ok-judge_standing) (gained at.After-gains-gains))

-- the answer at mixture i over what stands
abbrev answer_at : After-gains-gains → Standing → ℕ → Result Bounds Refusal
answer_at c t i =
    let a = c.args in
    answer_in a.c.states a.c.actions t.vectors t.points a.actions.now a.masks.now a.entries.now a.corners.now
    a.weights.now a.informed.now c.gains-gains.result (row_in a.c.states a.mixtures.now i)

answer-is : (c : After-gains-gains) (choices : List ℕ) (i : ℕ) → let s = (goal.at.After-gains-gains c).Start in
    answer_at c c.standing_in-s.result i ≡ totals_of (tables s) (certifier s choices) (row_in s.args.c.states s.args.mixtures.now i)
answer-is c choices i =
    let at = goal.at.After-gains-gains c in
    let s = at.Start in
    ap (λ (t : Standing). answer_at c t i) c.standing_in-s.ensures
    ∙ answered (tables s) (certifier s choices) (row_in s.args.c.states s.args.mixtures.now i) (held at.In_ok-judge_standing choices) (gained c)

pub returns : goal.returns
returns c =
    let at = goal.at.returns c in
    let g = at.After-gains-gains in
    let s = at.Start in
    let e : Said s Fine = λ choices. given (tables s) (certifier s choices) s.args.mixtures.now s.args.count (lent-for s)
    (c.judge_standing.ensures choices) c.in_ok-judge_standing.was (packed at.Else-mixtures-n) (sym c.if-not-room_for.ensures) in
    λ choices. (
      e choices,
      all-written (tables s) (certifier s choices) s.args.mixtures.now s.args.count (lent-for s) (e choices)
          (c.write_answers.ensures ∙ written_same s.args.count (answer_at g c.standing_in-s.result)
          (λ i. totals_of (tables s) (certifier s choices) (row_in s.args.c.states s.args.mixtures.now i)) (lent-for s) (answer-is g choices)),
    )
