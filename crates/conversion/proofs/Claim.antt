-- What is written of a file is read back as the same model. Assumes nothing.
--
-- In order: what is written is read back; the claim; what the call answers and leaves, with it.
use Rattle.integers.proofs.Kit.{◌≡◌, ◌∙◌, ap, true, List, ℕ, ◌*◌, leb-true, leb, length, ℤ}
use Rattle.integers.specs.Whole.{◌·◌}
use Rattle.std.specs.Prelude.{Result}
use Rattle.tables.specs.declared.Counts.{Counts}
use Rattle.refusals.specs.declared.Refusal.{Refusal}
use Rattle.refusals.specs.Verdicts.{Fine, ◌before◌, unless}
use Rattle.tables.specs.Limits.{max_converted, one}
use Rattle.tables.specs.Storage.{counts_of}
use Rattle.refusals.proofs.Refusals.{before-fine, unless-fine}
use Rattle.bodies.specs.Body.{ModelFile}
use Rattle.modelfile.specs.ModelFile.{max_bytes, Room, room_for, model_file}
use Rattle.expected.proofs.Expected.{expected-whole, expected-exact}
use Rattle.written.specs.Text.{max_text}
use Rattle.written.proofs.Sizes.{file-length}
use Rattle.rereading.proofs.WholeFile.{models-read-back}
use Rattle.conversion.specs.Convert.{said, expect_verdict, convert_verdict, expected_rewards, expected_text, converted, convert_answer, converted_over}
use Rattle.conversion.specs.Claim.{SameModel, ConvertHolds}
use Rattle.conversion.specs.Steps.{SoundFile, AnswersText}
use Rattle.conversion.proofs.Converting.{said-sound}
use Rattle.conversion.proofs.Expecting.{expected-at, expected-valid, starts-below}

module _ (x : ModelFile) (h : SoundFile x) where
  abbrev c : Counts
  c = counts_of x.tables

  same-model : expect_verdict x ≡ Fine → (r : Room) → room_for r c ≡ true → SameModel x (model_file r (expected_text x))
  unfolding expect_verdict
  same-model e r roomy =
      let T = x.tables.transition in
      let O = x.tables.observation in
      let R = expected_rewards x in
      let v = expected-valid x h in
      let fine = before-fine _ _ e in
      let few = leb-true _ max_converted (unless-fine _ 25 0 fine.0) in
      let short = file-length c T O R x.start v few (starts-below x h) in
      let back = models-read-back c T O R x.start r v h.starts roomy short in
      record {
        served = back.verdict;
        counts = back.counts;
        transitions = back.same.transitions;
        observations = back.same.observations;
        start = back.starts;
        rewards = λ a la s ls. ap (λ (z : ℤ). (one * one) · z) (back.same.rewards a la s ls ∙ expected-at x a la s ls)
            ∙ expected-exact c T O x.tables.reward s a (expected-whole c T O x.tables.reward fine.1 a la s ls);
      }

-- The rewards written are within their limits, since rows of T and O total 1. So the text is read back, no longer than a file may be, and its totals
-- are those of what was read. Where 26 is not answered the rewards are exact. Qed.
pub convert-holds : (room : ℕ) (file : List ℕ) → convert_verdict room file ≡ Fine → ConvertHolds file
unfolding convert_verdict
convert-holds room file e =
    let rest = (said file).verdict before expect_verdict (said file) in
    let long = before-fine (unless (leb max_text room) 27 0) (unless (leb (length file) max_bytes) 1 0 before rest) e in
    let read = before-fine (said file).verdict (expect_verdict (said file)) (before-fine (unless (leb (length file) max_bytes) 1 0) rest long.1).1 in
    same-model (said file) (said-sound file read.0) read.1

-- what the call answers and leaves, with the claim
pub convert-answers : (file out : List ℕ) {r : Result ℕ Refusal} {after : List ℕ} → AnswersText (convert_verdict (length out) file) (converted file) out r after
    → (r ≡ convert_answer (convert_verdict (length out) file) (length (converted file)))
    × ((after ≡ converted_over file out) × (convert_verdict (length out) file ≡ Fine → ConvertHolds file))
convert-answers file out h = (h.is, (h.leaves, convert-holds (length out) file))
