use Rattle.std.specs.Prelude.{Result}
use Rattle.integers.proofs.Kit.{◌≡◌, ◌∙◌, refl, ap, sym, List, ℕ}
use Rattle.integers.proofs.Words.{back-small}
use Rattle.refusals.specs.declared.Refusal.{Refusal}
use Rattle.runs.specs.declared.Bounds.{Bounds}
use Rattle.bounds.specs.Steps.{answer_in}
use Rattle.tables.specs.Storage.{row_in}
use Rattle.mixtures.specs.Each.{answers}
use Rattle.mixtures.proofs.Answers.{AnswersRoom, written_none, written-more}
use Rattle.bounds.proofs.Bounds.{acts-within, sizes-within}
use Rattle.mixtures.proofs.write_answers.Goals as goal
use Rattle.mixtures.proofs.write_answers.Goals.{Start, After-answer, in-Ok, in-Err}

-- the answer at mixture j, and at the turn's
abbrev Answer : Start → ℕ → Result Bounds Refusal
Answer s j =
    let a = s.args in
    answer_in a.n a.m a.vectors a.points a.actions.now a.masks.now a.entries.now a.corners.now a.weights.now a.informed.now
    a.gains.now (row_in a.n a.mixtures.now j)

answer-is : (c : After-answer) → Answer (goal.at.After-answer c).Start c.loop-i.i ≡ c.answer.result
answer-is c =
    let a = c.args in
    ap (λ (b : List ℕ). answer_in a.n a.m a.vectors a.points a.actions.now a.masks.now a.entries.now
    a.corners.now a.weights.now a.informed.now a.gains.now b) (sym c.row-mixture.ensures) ∙ sym c.answer.ensures

pub loop-i-init : goal.loop-i-init
loop-i-init c = written_none (Answer (goal.at.loop-i-init c).Start) _ _ _ _

pub number-requires : goal.number-requires
number-requires c =
    let e = answer-is (goal.at.number-requires c).After-answer ∙ c.in-Ok.is in
    rw e at (acts-within c.requires.asked (row_in c.args.n c.args.mixtures.now c.loop-i.i))

pub loop-i-preserved : goal.loop-i-preserved
loop-i-preserved c =
    let a = c.args in
    let s = (goal.at.loop-i-preserved c).Start in
    let answer = answer-is (goal.at.loop-i-preserved c).After-answer in
    let small = sizes-within c.requires.asked (row_in a.n a.mixtures.now c.loop-i.i) in
    let (verdicts, (lower, (upper, advice))) = c.requires.count_in_bounds in
    let room : AnswersRoom a.count (answers a.verdicts.now a.lower.now a.upper.now a.advice.now)
    = record { verdicts = verdicts; lower = lower; upper = upper; advice = advice } in
    elim c.match-answer.branch [
      | in-Ok w ↦
          let e = answer ∙ w.in-Ok.is in
          let fit = rw e at small in
          rw (w.verdicts-is, w.lower-is, w.upper-is, w.advice-is) (written-more (Answer s) _ _ _ _ c.loop-i.invariant room c.loop-i-test.true
          (rw e refl) (rw e (back-small _ fit.0)) (rw e (back-small _ fit.1)) (rw e w.number.ensures))
      | in-Err w ↦
          let e = answer ∙ w.in-Err.is in
          rw (w.verdicts-is, w.lower-is, w.upper-is, w.advice-is) (written-more (Answer s) _ _ _ _ c.loop-i.invariant room c.loop-i-test.true
          (rw e refl) (rw e refl) (rw e refl) (rw e refl))
    ]
