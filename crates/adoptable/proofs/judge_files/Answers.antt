use Rattle.std.specs.Prelude.{Ok, Err}
use Rattle.integers.proofs.Kit.{◌≡◌, sym, ap, ◌∙◌, rules, Bool, ℕ, [], le-leb}
use Rattle.integers.proofs.Searches.{and_is}
use Rattle.refusals.specs.declared.Refusal.{Refusal}
use Rattle.refusals.specs.Verdicts.{Verdict, Fine, ◌before◌, unless}
use Rattle.tables.specs.Limits.{max_vectors}
use Rattle.tables.specs.Storage.{tables_in}
use Rattle.levels.specs.Storage.{cells, rows, lent}
use Rattle.runs.proofs.Judged.{Held, standing-true}
use Rattle.solver.specs.Files.{vectors_in, files_verdict, with_count}
use Rattle.solver.proofs.Files.{counted-fine}
use Rattle.adoptable.proofs.judge_files.Goals as goal
use Rattle.adoptable.proofs.judge_files.Goals.{Else-not-standing_holds}

-- 7 is passed
held : (c : Else-not-standing_holds) → let a = c.args in
    Held max_vectors (tables_in a.c a.transition.now a.observation.now a.reward.now)
    (lent a.state.now (cells a.actions.now [] a.masks.now a.entries.now a.corners.now a.weights.now a.values.now) (rows a.informed.now a.qmdp.now))
held c = standing-true max_vectors _ _ (sym (c.standing_holds.ensures []) ∙ c.if-not-standing_holds.false)

pub judge_files-requires : goal.judge_files-requires
judge_files-requires c =
    let h = held (goal.at.judge_files-requires c).Else-not-standing_holds in (h.valid-tables.few_states, h.valid-tables.few_observations)

pub standing_in-s-requires : goal.standing_in-s-requires
standing_in-s-requires c = (held (goal.at.standing_in-s-requires c).Else-not-standing_holds).state-long

pub judge_room-requires : goal.judge_room-requires
judge_room-requires c =
    let h = held (goal.at.judge_room-requires c).Else-not-standing_holds in (h.valid-tables.few_states, h.valid-tables.few_observations)

-- 8 or 9, after stages that are passed
late : (a b c d : Verdict) {e : Refusal} (n : ℕ) → a ≡ Fine → b ≡ Fine → c ≡ Fine → Err e ≡ d → Err e ≡ with_count (a before b before c before d) n
late a b c (Ok u) n h k l q = cc
late a b c (Err e) n h k l q = rw (h, k, l) cc

pub returns-in_err-judge_room : goal.returns-in_err-judge_room
returns-in_err-judge_room c choices =
    let a = c.args in
    let files = counted-fine (files_verdict a.c.states a.c.observations a.alpha.now a.graph.now) (vectors_in a.c.states a.alpha.now) c.in_ok-vectors.ensures in
    let sizes = and_is (le-leb _ _ c.if-alpha-gt-FILE.false) (le-leb _ _ c.if-graph-gt-FILE.false) in
    let stands = sym (c.standing_holds.ensures choices) ∙ c.if-not-standing_holds.false in
    let same : c.from_residual-in_err-judge_room.result ≡ Err c.in_err-judge_room.field-0.0 = search rules in
    same
    ∙ late _ _ _ _ _ (ap (λ (b : Bool). unless b 1 0) sizes) (ap (λ (b : Bool). unless b 7 0) stands) files.0
    (rw (c.standing_in-s.ensures, files.1) at c.in_err-judge_room.ensures)
