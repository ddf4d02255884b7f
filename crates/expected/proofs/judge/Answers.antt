use Rattle.expected.proofs.Prelude.{◌≡◌, ◌∙◌, ap, sym, arith, answer}
use Rattle.integers.proofs.Kit.{List, ℕ, ℤ, Bool}
use Rattle.tables.specs.Storage.{row_place}
use Rattle.refusals.specs.Verdicts.{unless, Refused}
use Rattle.refusals.proofs.Refusals.{first-none, first_more, first-here}
use Rattle.tables.specs.declared.Counts.{Counts}
use Rattle.expected.specs.Expected.{expected_millionths, is_whole, expected_verdict}
use Rattle.expected.proofs.judge.Invariants.{here}
use Rattle.expected.proofs.judge.Goals as goal

-- the verdict on an action and a state, as the test says
told : (c : Counts) (T O : List ℕ) (cells : List ℤ) (a s : ℕ) {b t : Bool} → b ≡ is_whole (expected_millionths c T O cells s a) → b ≡ t
    → here c T O cells a s ≡ unless t 26 (row_place c.states a s)
told c T O cells a s e f = ap (λ (t : Bool). unless t 26 (row_place c.states a s)) (sym e ∙ f)

pub loop-a-init : goal.loop-a-init
loop-a-init c = first-none _

pub loop-s-init : goal.loop-s-init
loop-s-init c = first-none _

pub loop-s-preserved : goal.loop-s-preserved
loop-s-preserved c =
    let said = c.is_whole.ensures ∙ ap is_whole (answer c.millionths-x.type_inv c.millionths-x.ensures) in
    first_more _ _ c.loop-s.invariant (told _ _ _ _ _ _ said c.if-not-is_whole.false)

pub loop-a-preserved : goal.loop-a-preserved
loop-a-preserved c =
    let e : c.loop-s.s ≡ c.args.c.states = omega arith in
    first_more _ _ c.loop-a.invariant (rw e at c.loop-s.invariant)

pub returns : goal.returns
unfolding expected_verdict
returns c =
    let e : c.loop-a.a ≡ c.args.c.actions = omega arith in
    sym (rw e at c.loop-a.invariant)

pub returns-then-not-is_whole : goal.returns-then-not-is_whole
unfolding expected_verdict
returns-then-not-is_whole c =
    let said = c.is_whole.ensures ∙ ap is_whole (answer c.millionths-x.type_inv c.millionths-x.ensures) in
    ap (Refused 26) c.row.ensures.0
    ∙ sym (first-here _ _ c.loop-a.a c.loop-a-test.true c.loop-a.invariant
    (first-here _ _ c.loop-s.s c.loop-s-test.true c.loop-s.invariant (told _ _ _ _ _ _ said c.if-not-is_whole.true)))
