use Rattle.integers.proofs.Kit.{◌≡◌, ◌∙◌, refl, subst, le-leb, lt-leb, length}
use Rattle.refusals.specs.Verdicts.{Verdict, ◌before◌}
use Rattle.bodies.specs.Body.{ModelFile}
use Rattle.modelfile.specs.ModelFile.{max_bytes}
use Rattle.written.specs.Text.{max_text}
use Rattle.grammar.proofs.Laws.{handed}
use Rattle.conversion.specs.Convert.{said, expect_verdict, convert_verdict, converted}
use Rattle.conversion.specs.Steps.{AnswersText, AnswersFile}
use Rattle.conversion.proofs.Converting.{answers-refused, short-output, long-file, short-file, unheaded, headed}
use Rattle.conversion.proofs.Claim.{convert-answers}
use Rattle.converting.proofs.convert.Goals as goal
use Rattle.converting.proofs.convert.Goals.{Else-file-gt-BYTES}

-- the verdict is that on what the file says
judged : (c : Else-file-gt-BYTES) → let a = c.args in
    ((said a.file.now).verdict before expect_verdict (said a.file.now)) ≡ convert_verdict (length a.out.now) a.file.now
judged c =
    let a = c.args in
    short-file (length a.out.now) a.file.now (le-leb max_text _ c.if-out-lt-LENGTH.false) (le-leb _ max_bytes c.if-file-gt-BYTES.false)

pub returns-then-out-lt-LENGTH : goal.returns-then-out-lt-LENGTH
returns-then-out-lt-LENGTH c =
    let a = c.args in
    let (value, (after, holds)) = convert-answers a.file.now a.out.now (answers-refused (converted a.file.now) a.out.now
    (short-output _ a.file.now (lt-leb max_text _ c.if-out-lt-LENGTH.true)) refl refl) in
    record { value = value; out_after = after; convert_holds = holds }

pub returns-then-file-gt-BYTES : goal.returns-then-file-gt-BYTES
returns-then-file-gt-BYTES c =
    let a = c.args in
    let (value, (after, holds)) = convert-answers a.file.now a.out.now (answers-refused (converted a.file.now) a.out.now
    (long-file _ a.file.now (le-leb max_text _ c.if-out-lt-LENGTH.false) (lt-leb _ max_bytes c.if-file-gt-BYTES.true)) refl refl) in
    record { value = value; out_after = after; convert_holds = holds }

pub returns-in_err-head : goal.returns-in_err-head
returns-in_err-head c =
    let a = c.args in
    let (value, (after, holds)) = convert-answers a.file.now a.out.now (answers-refused (converted a.file.now) a.out.now
    (unheaded a.file.now c.in_err-head.ensures ∙ judged (goal.at.returns-in_err-head c).Else-file-gt-BYTES)
    (handed _ c.from_residual.ensures) refl) in
    record { value = value; out_after = after; convert_holds = holds }

pub returns : goal.returns
returns c =
    let a = c.args in
    let f = c.from_counts in
    let (value, (after, holds)) = convert-answers a.file.now a.out.now
    (subst (λ (v : Verdict). AnswersText v (converted a.file.now) a.out.now f.result f.new.out)
    (judged (goal.at.returns c).Else-file-gt-BYTES) (subst (λ (x : ModelFile). AnswersFile x a.out.now f.result f.new.out)
    (headed a.file.now c.in_ok-head.ensures) f.ensures)) in
    record { value = value; out_after = after; convert_holds = holds }
