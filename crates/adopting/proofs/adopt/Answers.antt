use Rattle.std.specs.Prelude.{Err}
use Rattle.integers.proofs.Kit.{ℕ, List, ◌≡◌, ◌∙◌, sym, [], rules}
use Rattle.tables.specs.Tables.{Tables}
use Rattle.refusals.specs.Verdicts.{Fine}
use Rattle.tables.specs.Storage.{tables_in}
use Rattle.levels.specs.Storage.{Cells, Lent, cells, rows, lent}
use Rattle.solver.specs.Files.{vectors_in}
use Rattle.solver.proofs.Files.{counted-fine, counted-refused}
use Rattle.adoption.proofs.Adopting.{start_verdict, Started, started, adopt-first, adopt-then, level-asks, level-said}
use Rattle.adoption.proofs.Adopting.{roof-asks, vectors-ask, points-are, level-laid, answered-back, answered-fine}
use Rattle.adopting.proofs.adopt.Goals as goal
use Rattle.adopting.proofs.adopt.Goals.{In_ok-vectors, In_ok-judge_level}

-- what is lent, where 1 to 9 are passed
abbrev tables : In_ok-vectors → Tables
tables c = let a = c.args in tables_in a.c a.transition.now a.observation.now a.reward.now

abbrev certifier : In_ok-vectors → List ℕ → Lent
certifier c choices =
    let a = c.args in
    lent a.state.now (cells a.actions.now choices a.masks.now a.entries.now a.corners.now a.weights.now a.values.now) (rows a.informed.now a.qmdp.now)

abbrev slices : In_ok-vectors → Cells
slices c = let a = c.args in cells a.newactions.now a.newchoices.now a.newmasks.now a.newentries.now a.newcorners.now a.given.now a.newvalues.now

-- and what is known there
passed : (c : In_ok-vectors) (choices : List ℕ) → let a = c.args in
    (start_verdict (tables c) (certifier c choices) a.alpha.now a.graph.now a.count (slices c) ≡ Fine)
    × (c.in_ok-vectors.vectors ≡ vectors_in a.c.states a.alpha.now)
passed c choices = counted-fine _ _ (c.in_ok-vectors.ensures choices)

known : (c : In_ok-vectors) (choices : List ℕ) → let a = c.args in
    Started (tables c) (certifier c choices) a.alpha.now a.graph.now a.count (slices c)
known c choices = started _ _ _ _ _ _ (passed c choices).0

pub returns-in_err-vectors : goal.returns-in_err-vectors
returns-in_err-vectors c choices =
    let same : c.from_residual.result ≡ Err c.in_err-vectors.field-0.0 = search rules in
    answered-back _ _ _ _ _ _ _ same (adopt-first _ _ _ _ _ _ (counted-refused _ _ (c.in_err-vectors.ensures choices)))

pub standing_in-s-requires : goal.standing_in-s-requires
standing_in-s-requires c = (known (goal.at.standing_in-s-requires c).In_ok-vectors []).standing.state-long

pub judge_level-requires-clause-upon : goal.judge_level-requires-clause-upon
judge_level-requires-clause-upon c =
    let s = (goal.at.judge_level-requires-clause-upon c).In_ok-vectors in
    (level-asks _ _ _ _ _ _ (known s []) c.standing_in-s.ensures (passed s []).1).0

pub judge_level-requires-clause-files : goal.judge_level-requires-clause-files
judge_level-requires-clause-files c =
    let s = (goal.at.judge_level-requires-clause-files c).In_ok-vectors in
    (level-asks _ _ _ _ _ _ (known s []) c.standing_in-s.ensures (passed s []).1).1.0

pub judge_level-requires-clause-points_le_max_built : goal.judge_level-requires-clause-points_le_max_built
judge_level-requires-clause-points_le_max_built c =
    let s = (goal.at.judge_level-requires-clause-points_le_max_built c).In_ok-vectors in
    (level-asks _ _ _ _ _ _ (known s []) c.standing_in-s.ensures (passed s []).1).1.1

pub returns-in_err-judge_level : goal.returns-in_err-judge_level
returns-in_err-judge_level c choices =
    let s = (goal.at.returns-in_err-judge_level c).In_ok-vectors in
    let same : c.from_residual-in_err-judge_level.result ≡ Err c.in_err-judge_level.field-0.0 = search rules in
    let level = level-said _ _ _ _ _ _ (known s choices) c.standing_in-s.ensures (passed s choices).1 c.in_err-judge_level.ensures in
    answered-back _ _ _ _ _ _ _ same (adopt-then _ _ _ _ _ _ (passed s choices).0 ∙ sym level)

pub write_vectors-requires-clause-solving : goal.write_vectors-requires-clause-solving
write_vectors-requires-clause-solving c =
    let s = (goal.at.write_vectors-requires-clause-solving c).In_ok-vectors in
    let k = known s [] in
    let level = level-said _ _ _ _ _ _ k c.standing_in-s.ensures (passed s []).1 c.in_ok-judge_level.ensures in
    (vectors-ask _ _ _ _ _ _ k c.standing_in-s.ensures (passed s []).1 (sym level)).0

pub write_vectors-requires-clause-rows_fit : goal.write_vectors-requires-clause-rows_fit
write_vectors-requires-clause-rows_fit c =
    let s = (goal.at.write_vectors-requires-clause-rows_fit c).In_ok-vectors in
    let k = known s [] in
    let level = level-said _ _ _ _ _ _ k c.standing_in-s.ensures (passed s []).1 c.in_ok-judge_level.ensures in
    (vectors-ask _ _ _ _ _ _ k c.standing_in-s.ensures (passed s []).1 (sym level)).1

pub build_roof-requires-clause-roofed : goal.build_roof-requires-clause-roofed
build_roof-requires-clause-roofed c =
    let s = (goal.at.build_roof-requires-clause-roofed c).In_ok-vectors in
    roof-asks _ _ _ _ _ _ (known s []) c.standing_in-s.ensures (passed s []).1

pub build_roof-requires-clause-count_le_max_built : goal.build_roof-requires-clause-count_le_max_built
build_roof-requires-clause-count_le_max_built c =
    let k = known (goal.at.build_roof-requires-clause-count_le_max_built c).In_ok-vectors [] in (k.few, k.whole.read.weights)

pub build_roof-requires-clause-by_index : goal.build_roof-requires-clause-by_index
build_roof-requires-clause-by_index c =
    let s = (goal.at.build_roof-requires-clause-by_index c).In_ok-vectors in
    let k = known s [] in
    let level = level-said _ _ _ _ _ _ k c.standing_in-s.ensures (passed s []).1 c.in_ok-judge_level.ensures in
    points-are _ _ _ _ _ _ k c.standing_in-s.ensures (passed s []).1 (sym level)

pub build_roof-requires-clause-states_in_bounds : goal.build_roof-requires-clause-states_in_bounds
build_roof-requires-clause-states_in_bounds c =
    let k = known (goal.at.build_roof-requires-clause-states_in_bounds c).In_ok-vectors [] in (k.whole.read.corners, k.whole.read.values)

pub returns : goal.returns
returns c choices =
    let s = (goal.at.returns c).In_ok-vectors in
    let k = known s choices in
    let level = level-said _ _ _ _ _ _ k c.standing_in-s.ensures (passed s choices).1 c.in_ok-judge_level.ensures in
    answered-fine _ _ _ _ _ _ (adopt-then _ _ _ _ _ _ (passed s choices).0 ∙ sym level) (passed s choices).1
    (level-laid _ _ _ _ _ _ k c.standing_in-s.ensures (passed s choices).1 (sym level) c.write_vectors.ensures c.build_roof.ensures.least_after
    c.build_roof.ensures.worths_after)
