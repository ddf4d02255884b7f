-- A conversion by stages: what is answered and left at each. Assumes nothing.
--
-- In order: a refusal, or a text that is written; what a file that is not refused by 2 to 6 says; 25, then 26; 27, then 1, then what the file says.
use Rattle.std.specs.Prelude.{Result, Ok, Err}
use Rattle.tables.specs.Limits.{max_converted}
use Rattle.integers.proofs.Kit.{◌≡◌, ◌∙◌, refl, ap, true, false, List, ℕ, ◌+◌, arith, leb, length}
use Rattle.tables.specs.declared.Counts.{Counts}
use Rattle.refusals.specs.declared.Refusal.{Refusal}
use Rattle.refusals.specs.Verdicts.{Verdict, Fine, Refused, ◌before◌, left}
use Rattle.tables.specs.Storage.{counts_of, model_of}
use Rattle.tables.proofs.Accepted.{valid}
use Rattle.refusals.proofs.Refusals.{never, breaks, passes}
use Rattle.words.specs.Words.{words_in, between}
use Rattle.grammar.specs.declared.Read.{Read}
use Rattle.grammar.specs.Grammar.{Answer, got, refused, ◌then◌}
use Rattle.grammar.proofs.Gives.{Gives}
use Rattle.headers.specs.Headers.{header}
use Rattle.headers.specs.Steps.{Heads}
use Rattle.bodies.specs.Body.{ModelFile, body, ended}
use Rattle.modelfile.specs.ModelFile.{max_bytes}
use Rattle.modelfile.proofs.Opens.{Fits, BodyHolds, header-fits, body-holds}
use Rattle.expected.specs.Expected.{expected_verdict}
use Rattle.digits.specs.Digits.{text_over}
use Rattle.digits.specs.Steps.{Wrote}
use Rattle.written.specs.Text.{max_text}
use Rattle.conversion.specs.Convert.{said, expect_verdict, convert_verdict, convert_answer}
use Rattle.conversion.specs.Steps.{SoundFile, AnswersText}

-- ---- a refusal, or a text that is written

module _ {v : Verdict} (text out : List ℕ) {r : Result ℕ Refusal} {after : List ℕ} where
  pub answers-refused : {e : Refusal} → Err e ≡ v → r ≡ Err e → after ≡ out → AnswersText v text out r after
  answers-refused h q f = record {
    is = q ∙ ap (λ (v : Verdict). convert_answer v (length text)) h;
    leaves = f ∙ ap (λ (v : Verdict). left v (text_over 0 text out) out) h;
  }

pub answers-written : {v : Verdict} (text out : List ℕ) {size : ℕ} {after : List ℕ} → Fine ≡ v → Wrote 0 text out size after
    → AnswersText v text out (Ok size) after
answers-written text out {size} {after} e w =
    let l : size ≡ length text = omega (arith, w.place) in
    record {
      is = ap (λ (n : ℕ). convert_answer Fine n) l ∙ ap (λ (v : Verdict). convert_answer v (length text)) e;
      leaves = w.same ∙ ap (λ (v : Verdict). left v (text_over 0 text out) out) e;
    }

-- ---- what a file that is not refused by 2 to 6 says

pub body-sound : {c : Counts} {x : ModelFile} → BodyHolds c x → SoundFile x
body-sound {c} {x} h = record { valid = valid (model_of x.tables) h.tables-fine; outcomes = h.read.small.rewards; starts = h.start-total }

counts-sound : (size fuel : ℕ) (a : Answer Counts) → Gives Fits a → (ended size (a then λ c ws. body true fuel c ws)).verdict ≡ Fine
    → SoundFile (ended size (a then λ c ws. body true fuel c ws))
counts-sound size fuel (got c ws) h e = body-sound (body-holds c h size true fuel ws refl e)
counts-sound size fuel (refused n p) h e = never e

pub said-sound : (file : List ℕ) → (said file).verdict ≡ Fine → SoundFile (said file)
said-sound file e = counts-sound (length file) (length file + 1) (header (words_in between file 0)) (header-fits (words_in between file 0)) e

-- ---- 25, then 26

module _ (x : ModelFile) where
  pub many-states : leb x.tables.states max_converted ≡ false → Refused 25 0 ≡ expect_verdict x
  unfolding expect_verdict
  many-states e = breaks _ e

  pub few_states : leb x.tables.states max_converted ≡ true → {v : Verdict}
      → v ≡ expected_verdict (counts_of x.tables) x.tables.transition x.tables.observation x.tables.reward → v ≡ expect_verdict x
  unfolding expect_verdict
  few_states e f = passes 25 0 e f

-- ---- 27, then 1, then what the file says

module _ (room : ℕ) (file : List ℕ) where
  pub short-output : leb max_text room ≡ false → Refused 27 0 ≡ convert_verdict room file
  unfolding convert_verdict
  short-output e = breaks _ e

  pub long-file : leb max_text room ≡ true → leb (length file) max_bytes ≡ false → Refused 1 0 ≡ convert_verdict room file
  unfolding convert_verdict
  long-file e f = passes 27 0 e (breaks _ f)

  pub short-file : leb max_text room ≡ true → leb (length file) max_bytes ≡ true
      → ((said file).verdict before expect_verdict (said file)) ≡ convert_verdict room file
  unfolding convert_verdict
  short-file e f = passes 27 0 e (passes 1 0 f refl)

-- headers that are refused, or read
module _ (file : List ℕ) where
  abbrev ending : Answer Counts → ModelFile
  ending a = ended (length file) (a then λ c ws. body true (length file + 1) c ws)

  pub unheaded : {e : Refusal} → Heads file 0 (Err e) (header (words_in between file 0)) → Err e ≡ ((said file).verdict before expect_verdict (said file))
  unheaded h = ap (λ (a : Answer Counts). (ending a).verdict before expect_verdict (ending a)) h.is

  pub headed : {x : Read Counts} → Heads file 0 (Ok x) (header (words_in between file 0))
      → ended (length file) (body true (length file + 1) x.value (words_in between file x.next)) ≡ said file
  headed h = ap ending h.is
