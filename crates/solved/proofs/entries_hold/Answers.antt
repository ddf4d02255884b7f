use Rattle.solved.proofs.Prelude.{arith, ◌≡◌, sym, ap, ◌∙◌, pos, get_or}
use Rattle.integers.proofs.Kit.{ℕ, ◌+◌, ◌<◌}
use Rattle.refusals.proofs.Refusals.{err-refused, err-fine, first-none, first_more, first-here}
use Rattle.tables.specs.Storage.{row_place}
use Rattle.plans.specs.Limits.{range}
use Rattle.levels.specs.Judged.{rows_within}
use Rattle.solved.proofs.Vectors.{row_fine, row-refused}
use Rattle.solved.proofs.entries_hold.Goals as goal
use Rattle.solved.proofs.entries_hold.Goals.{After-rows_within}

pub loop-v-init : goal.loop-v-init
loop-v-init c = record { read = c.requires.files.start; fine = first-none _ }

pub rows_within-requires-clause-rows_le_max_vectors : goal.rows_within-requires-clause-rows_le_max_vectors
unfolding range
rows_within-requires-clause-rows_le_max_vectors c =
    (omega arith, (c.requires.files.few_states, omega (arith, c.range_of-limit.ensures, c.requires.below)))

-- what 11 of the vector tests
said : (c : After-rows_within) → let a = c.args in
    c.rows_within.result
    ≡ rows_within 11 1 a.c.states (range (a.t + 1)) (λ i s. get_or c.row_at-x.result.entries (row_place a.c.states i s) (pos 0))
said c =
    let n = c.args.c.states in
    c.rows_within.ensures
    ∙ ap (λ (z : ℕ). rows_within 11 1 n z (λ i s. get_or c.row_at-x.result.entries (row_place n i s) (pos 0))) c.range_of-limit.ensures

pub returns-then-is_err : goal.returns-then-is_err
unfolding rows_within
returns-then-is_err c =
    let a = c.args in
    let below : c.loop-v.v < a.count = omega arith in
    let refused = err-refused (said (goal.at.returns-then-is_err c).After-rows_within) c.is_err.ensures.value c.if-is_err.true in
    sym (first-here _ _ c.loop-v.v below c.loop-v.invariant.fine
    (row-refused a.c.states (range (a.t + 1)) _ c.loop-v.v c.row_at-x.ensures.entries refused))

pub loop-v-preserved : goal.loop-v-preserved
loop-v-preserved c =
    let a = c.args in
    let fine = err-fine (said (goal.at.loop-v-preserved c).After-rows_within) c.is_err.ensures.value c.if-is_err.false in
    record {
      read = c.row_at-x.ensures.onward;
      fine = first_more _ c.loop-v.v c.loop-v.invariant.fine
          (row_fine a.c.states (range (a.t + 1)) _ c.loop-v.v c.row_at-x.ensures.entries fine);
    }

pub returns : goal.returns
unfolding rows_within
returns c =
    let e : c.loop-v.v ≡ c.args.count = omega arith in
    let fine = c.loop-v.invariant.fine in
    sym (rw e at fine)
