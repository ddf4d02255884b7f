use Rattle.integers.proofs.Kit.{◌≡◌, ◌∙◌, ap, sym, true, List, [], ℕ, arith}
use Rattle.std.specs.Prelude.{Err}
use Rattle.std.proofs.lemmas.Result.{err_from_is_err_and}
use Rattle.refusals.specs.Verdicts.{Fine}
use Rattle.tables.specs.Storage.{model_of, tables_in}
use Rattle.refusals.proofs.Refusals.{passes}
use Rattle.columns.specs.Columns.{list_holds}
use Rattle.lists.proofs.Fitting.{list-listed}
use Rattle.plans.specs.Level.{Level, Shaped}
use Rattle.plans.specs.Build.{built}
use Rattle.plans.proofs.Built.{shaped-mono}
use Rattle.levels.specs.declared.Standing.{Standing}
use Rattle.levels.specs.Storage.{cells, rows, lent, level_in, level_of, point_in, over, standing_in}
use Rattle.runs.specs.State.{build_verdict}
use Rattle.runs.proofs.Demand3.{build-demand}
use Rattle.candidates.specs.Steps.{top_built}
use Rattle.builder.proofs.Levels.{upon-lent, roofed-lent, built-read}
use Rattle.building.proofs.Buildable.{Buildable, left-passes, buildable, built-refused, built-fine}
use Rattle.building.proofs.build.Goals as goal
use Rattle.building.proofs.build.Goals.{After-judge_build, In_ok-judge_build}

-- the list that is handed in has been tested
listed : (c : After-judge_build) → let a = c.args in
    list_holds (tables_in a.c a.transition.now a.observation.now a.reward.now) a.list.now ≡ true
listed c = sym c.holds.ensures ∙ c.if-not-holds.false

said : (c : After-judge_build) (choices : List ℕ) → let a = c.args in
    c.judge_build.result
    ≡ build_verdict (tables_in a.c a.transition.now a.observation.now a.reward.now)
    (lent a.state.now (cells a.actions.now choices a.masks.now a.entries.now a.corners.now a.weights.now a.values.now) (rows a.informed.now a.qmdp.now))
    a.count (cells a.newactions.now a.newchoices.now a.newmasks.now a.newentries.now a.newcorners.now a.given.now a.newvalues.now)
unfolding build_verdict
said c choices = c.judge_build.ensures choices

known : (c : In_ok-judge_build) → let a = c.args in
    Buildable (tables_in a.c a.transition.now a.observation.now a.reward.now)
    (lent a.state.now (cells a.actions.now [] a.masks.now a.entries.now a.corners.now a.weights.now a.values.now) (rows a.informed.now a.qmdp.now))
    a.count (cells a.newactions.now a.newchoices.now a.newmasks.now a.newentries.now a.newcorners.now a.given.now a.newvalues.now)
unfolding build_verdict
known c = buildable _ _ _ _ (sym (c.in_ok-judge_build.ensures []))

pub returns-in_err-judge_build : goal.returns-in_err-judge_build
returns-in_err-judge_build c choices =
    let a = c.args in
    let j = (goal.at.returns-in_err-judge_build c).After-judge_build in
    let m = tables_in a.c a.transition.now a.observation.now a.reward.now in
    let x = lent a.state.now (cells a.actions.now choices a.masks.now a.entries.now a.corners.now a.weights.now a.values.now)
    (rows a.informed.now a.qmdp.now) in
    let y = cells a.newactions.now a.newchoices.now a.newmasks.now a.newentries.now a.newcorners.now a.given.now a.newvalues.now in
    let p = err_from_is_err_and c.from_residual.result c.from_residual.ensures.1 in
    let refused = p.1 ∙ ap Err p.2 ∙ sym c.in_err-judge_build.was ∙ said j choices in
    let same = built-refused m x a.count y (rw p.1 at refused) in (
      passes 7 0 (listed j) refused,
      (
        left-passes 7 0 y (listed j) same,
        λ m₀ x₀ es accepted is few some points holds. build-demand m x a.count y _ y refused same m₀ x₀ es accepted is few some points,
      ),
    )

pub standing_in-s-requires : goal.standing_in-s-requires
standing_in-s-requires c = (known (goal.at.standing_in-s-requires c).In_ok-judge_build).standing.state-long

-- the standing level is one that can be built upon
shaped : (c : In_ok-judge_build) → let a = c.args in
    let m = tables_in a.c a.transition.now a.observation.now a.reward.now in
    let x = lent a.state.now (cells a.actions.now [] a.masks.now a.entries.now a.corners.now a.weights.now a.values.now)
    (rows a.informed.now a.qmdp.now) in
    Shaped (model_of m) top_built (level_of m (standing_in x))
shaped c = let b = known c in shaped-mono _ _ _ top_built (omega (arith, b.room)) b.standing.shaped

pub build_level-requires-clause-upon : goal.build_level-requires-clause-upon
build_level-requires-clause-upon c =
    let a = c.args in
    let m = tables_in a.c a.transition.now a.observation.now a.reward.now in
    let x = lent a.state.now (cells a.actions.now [] a.masks.now a.entries.now a.corners.now a.weights.now a.values.now)
    (rows a.informed.now a.qmdp.now) in
    let p = (goal.at.build_level-requires-clause-upon c).In_ok-judge_build in
    let st = (known p).standing in
    rw c.standing_in-s.ensures (upon-lent {m = m} {l = standing_in x} st.valid-tables st.stored-tables st.read (shaped p))

pub build_level-requires-clause-roofed : goal.build_level-requires-clause-roofed
build_level-requires-clause-roofed c =
    let a = c.args in
    let m = tables_in a.c a.transition.now a.observation.now a.reward.now in
    let x = lent a.state.now (cells a.actions.now [] a.masks.now a.entries.now a.corners.now a.weights.now a.values.now)
    (rows a.informed.now a.qmdp.now) in
    let p = (goal.at.build_level-requires-clause-roofed c).In_ok-judge_build in
    let st = (known p).standing in
    rw c.standing_in-s.ensures (roofed-lent {m = m} {l = standing_in x} st.valid-tables st.stored-tables st.read (shaped p))

pub build_level-requires-clause-count_le_max_built : goal.build_level-requires-clause-count_le_max_built
build_level-requires-clause-count_le_max_built c =
    let b = known (goal.at.build_level-requires-clause-count_le_max_built c).In_ok-judge_build in (b.few, b.total)

pub build_level-requires-clause-worths_value : goal.build_level-requires-clause-worths_value
build_level-requires-clause-worths_value c = (known (goal.at.build_level-requires-clause-worths_value c).In_ok-judge_build).whole

pub build_level-requires-clause-lists : goal.build_level-requires-clause-lists
build_level-requires-clause-lists c =
    let a = c.args in
    let p = goal.at.build_level-requires-clause-lists c in
    list-listed (tables_in a.c a.transition.now a.observation.now a.reward.now) a.list.now (known p.In_ok-judge_build).standing.valid-tables
    (listed p.After-judge_build)

pub returns : goal.returns
returns c choices =
    let a = c.args in
    let j = (goal.at.returns c).After-judge_build in
    let m = tables_in a.c a.transition.now a.observation.now a.reward.now in
    let x = lent a.state.now (cells a.actions.now choices a.masks.now a.entries.now a.corners.now a.weights.now a.values.now)
    (rows a.informed.now a.qmdp.now) in
    let y = cells a.newactions.now a.newchoices.now a.newmasks.now a.newentries.now a.newcorners.now a.given.now a.newvalues.now in
    let laid = c.build_level.ensures
    ∙ ap (λ (t : Standing). over m (built (model_of m) (level_in a.c.states a.c.observations t.vectors [] [] a.masks.now a.entries.now
    a.corners.now t.points a.weights.now a.values.now) a.count (point_in a.c.states a.given.now)) y) c.standing_in-s.ensures
    ∙ ap (λ (W : Level). over m W y) (built-read m (standing_in x) a.count (point_in a.c.states a.given.now)) in
    let fine = sym c.in_ok-judge_build.was ∙ said j choices in
    let made = built-fine m x a.count y fine laid in (
      passes 7 0 (listed j) fine,
      (
        left-passes 7 0 y (listed j) made,
        λ m₀ x₀ es accepted is few some points holds. build-demand m x a.count y Fine _ fine made m₀ x₀ es accepted is few some points,
      ),
    )
