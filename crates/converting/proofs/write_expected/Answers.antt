use Rattle.integers.proofs.Kit.{◌≡◌, ◌∙◌, refl, ap, sym, subst, List, ◌*◌, le-leb, lt-leb, replicate, ℤ, pos}
use Rattle.refusals.specs.Verdicts.{Verdict, Fine, left}
use Rattle.tables.specs.Limits.{max_converted, max_actions}
use Rattle.bodies.specs.Body.{ModelFile}
use Rattle.bodies.specs.Steps.{file_in}
use Rattle.digits.specs.Steps.{Wrote}
use Rattle.written.specs.Text.{file_text}
use Rattle.grammar.proofs.Laws.{handed}
use Rattle.conversion.specs.Convert.{expect_verdict, expected_text, expected_rewards}
use Rattle.conversion.proofs.Expecting.{ready, writable}
use Rattle.conversion.proofs.Converting.{answers-refused, answers-written, many-states, few_states}
use Rattle.converting.proofs.write_expected.Goals as goal
use Rattle.converting.proofs.write_expected.Goals.{After-expect}

-- what was read
abbrev read : After-expect → ModelFile
read c = let a = c.args in file_in a.c a.transition.now a.observation.now a.outcomes.now a.start.now

-- 25 is not answered, so the verdict is that on the rewards
judged : (c : After-expect) → c.expect.result ≡ expect_verdict (read c)
judged c = few_states (read c) (le-leb _ max_converted c.if-c-gt-CONVERTED.false) c.expect.ensures.value

-- the rewards that are laid where nothing is refused
laid : (c : After-expect) → c.expect.result ≡ Fine → c.expect.new.reward ≡ expected_rewards (read c)
laid c e =
    c.expect.ensures.reward_after
    ∙ ap (λ (v : Verdict). left v (expected_rewards (read c)) (replicate (max_actions * max_converted) (pos 0))) (sym c.expect.ensures.value ∙ e)

pub returns-then-c-gt-CONVERTED : goal.returns-then-c-gt-CONVERTED
returns-then-c-gt-CONVERTED c =
    let a = c.args in
    let x = file_in a.c a.transition.now a.observation.now a.outcomes.now a.start.now in
    answers-refused (expected_text x) a.out.now (many-states x (lt-leb _ max_converted c.if-c-gt-CONVERTED.true)) refl refl

pub expect-requires-clause-expect_ready : goal.expect-requires-clause-expect_ready
expect-requires-clause-expect_ready c = ready _ _ _ _ _ c.requires.sound_file c.requires.long c.if-c-gt-CONVERTED.false

pub returns-in_err-expect : goal.returns-in_err-expect
returns-in_err-expect c =
    let x = (goal.at.returns-in_err-expect c).After-expect in
    answers-refused (expected_text (read x)) c.args.out.now (sym c.in_err-expect.was ∙ judged x) (handed _ c.from_residual.ensures) refl

pub put_file-requires-clause-writable : goal.put_file-requires-clause-writable
put_file-requires-clause-writable c =
    let x = (goal.at.put_file-requires-clause-writable c).After-expect in
    writable _ _ _ _ _ c.requires.sound_file c.requires.long c.if-c-gt-CONVERTED.false (laid x c.in_ok-expect.was)

pub returns : goal.returns
returns c =
    let x = (goal.at.returns c).After-expect in
    let a = c.args in
    let e = c.in_ok-expect.was in
    answers-written (expected_text (read x)) a.out.now (sym e ∙ judged x) (subst (λ (R : List ℤ). Wrote 0
    (file_text a.c a.transition.now a.observation.now R a.start.now) a.out.now c.put_file.result c.put_file.new.out)
    (laid x e) c.put_file.ensures)
