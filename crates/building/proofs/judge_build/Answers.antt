use Rattle.integers.proofs.Kit.{◌≡◌, ◌∙◌, refl, ap, sym, Bool, ◌&&◌, List, [], ℕ, ◌+◌, ◌*◌, arith, le-leb, lt-ltb, leb, ltb, length}
use Rattle.integers.proofs.Searches.{and_is}
use Rattle.refusals.specs.Verdicts.{Verdict, ◌before◌, unless}
use Rattle.tables.specs.Limits.{max_vectors, max_levels}
use Rattle.tables.specs.Storage.{model_of, tables_in}
use Rattle.refusals.proofs.Refusals.{goes, passes}
use Rattle.masks.specs.Steps.{some_includes}
use Rattle.plans.specs.Limits.{max_built}
use Rattle.plans.specs.Build.{some_covers_all}
use Rattle.levels.specs.declared.Standing.{Standing}
use Rattle.levels.specs.Storage.{cells, rows, lent, level_of, point_in, long_enough, standing_at, standing_in}
use Rattle.levels.specs.Judged.{holds, weights_verdict}
use Rattle.runs.proofs.Judged.{Held, standing-true}
use Rattle.building.proofs.Buildable.{some-covers}
use Rattle.building.proofs.judge_build.Goals as goal
use Rattle.building.proofs.judge_build.Goals.{Else-not-standing_holds, In_ok-weights_hold, After-some_has}

-- ---- what each test says
known : (c : Else-not-standing_holds) → let a = c.args in
    Held max_vectors (tables_in a.c a.transition.now a.observation.now a.reward.now)
    (lent a.state.now (cells a.actions.now [] a.masks.now a.entries.now a.corners.now a.weights.now a.values.now) (rows a.informed.now a.qmdp.now))
known c = standing-true max_vectors _ _ (sym (c.standing_holds.ensures []) ∙ c.if-not-standing_holds.false)

-- a refusal, or none, after the tests that were passed
on-12 : (c : In_ok-weights_hold) (choices : List ℕ) {u w : Verdict} → u ≡ w → let a = c.args in
    let m = tables_in a.c a.transition.now a.observation.now a.reward.now in
    let x = lent a.state.now (cells a.actions.now choices a.masks.now a.entries.now a.corners.now a.weights.now a.values.now)
    (rows a.informed.now a.qmdp.now) in
    u ≡ (unless (holds m x) 7 0
    before unless (ltb (standing_at a.state.now).number max_levels) 8 0
    before unless (leb a.count max_built && (leb ((a.c.states + a.count) * a.c.observations) a.newchoices
    && long_enough a.c.states (a.c.states + a.count) a.count a.newactions a.newmasks a.newentries a.newcorners (length a.given.now) a.newvalues)) 9 0
    before weights_verdict a.c.states a.count (point_in a.c.states a.given.now)
    before w)
on-12 c choices e =
    let number = ap (λ (s : Standing). s.number) c.standing_in-s.ensures in
    passes 7 0 (sym (c.standing_holds.ensures choices) ∙ c.if-not-standing_holds.false)
    (passes 8 0 (lt-ltb _ _ (rw number at c.if-s-ge-LEVELS.false))
    (passes 9 0 (and_is (le-leb _ _ c.if-count-gt-BUILT.false) (sym c.complete.ensures ∙ c.if-not-complete.false))
    (goes c.in_ok-weights_hold.ensures refl e)))

-- what the test of the masks says
covers-all : (c : After-some_has) (choices : List ℕ) → let a = c.args in
    let m = tables_in a.c a.transition.now a.observation.now a.reward.now in
    let x = lent a.state.now (cells a.actions.now choices a.masks.now a.entries.now a.corners.now a.weights.now a.values.now)
    (rows a.informed.now a.qmdp.now) in
    c.some_has.result ≡ some_covers_all (model_of m) (level_of m (standing_in x))
covers-all c choices =
    let a = c.args in
    c.some_has.ensures
    ∙ ap (λ (s : Standing). some_includes a.masks.now s.vectors c.all.result) c.standing_in-s.ensures
    ∙ ap (some_includes a.masks.now (standing_at a.state.now).vectors) c.all.ensures
    ∙ some-covers (tables_in a.c a.transition.now a.observation.now a.reward.now)
    (lent a.state.now (cells a.actions.now choices a.masks.now a.entries.now a.corners.now a.weights.now a.values.now)
    (rows a.informed.now a.qmdp.now))

pub standing_in-s-requires : goal.standing_in-s-requires
standing_in-s-requires c = (known (goal.at.standing_in-s-requires c).Else-not-standing_holds).state-long

pub overflow_add-c : goal.overflow_add-c
overflow_add-c c = omega (arith, (known (goal.at.overflow_add-c c).Else-not-standing_holds).valid-tables.few_states)

pub complete-requires : goal.complete-requires
complete-requires c =
    let v = (known (goal.at.complete-requires c).Else-not-standing_holds).valid-tables in
    (v.few_states, (v.few_observations, (omega (arith, v.few_states), omega arith)))

pub weights_hold-requires-clause-n_le_max_states : goal.weights_hold-requires-clause-n_le_max_states
weights_hold-requires-clause-n_le_max_states c =
    ((known (goal.at.weights_hold-requires-clause-n_le_max_states c).Else-not-standing_holds).valid-tables.few_states, omega arith)

pub all-requires : goal.all-requires
all-requires c = let v = (known (goal.at.all-requires c).Else-not-standing_holds).valid-tables in (v.some_states, v.few_states)

pub some_has-requires : goal.some_has-requires
some_has-requires c =
    omega (arith, ap (λ (s : Standing). s.vectors) c.standing_in-s.ensures, (known (goal.at.some_has-requires c).Else-not-standing_holds).read.masks)

pub returns-then-not-some_has : goal.returns-then-not-some_has
returns-then-not-some_has c choices =
    let p = goal.at.returns-then-not-some_has c in
    on-12 p.In_ok-weights_hold choices (sym (ap (λ (b : Bool). unless b 22 0) (sym (covers-all p.After-some_has choices) ∙ c.if-not-some_has.true)))

pub returns : goal.returns
returns c choices =
    let p = goal.at.returns c in
    on-12 p.In_ok-weights_hold choices (sym (ap (λ (b : Bool). unless b 22 0) (sym (covers-all p.After-some_has choices) ∙ c.if-not-some_has.false)))
