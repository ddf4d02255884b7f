-- A file whose rewards depend on what follows, written in our form: what the call answers, and the bytes that it writes.
use Rattle.std.specs.Prelude.{ℕ, ◌+◌, ◌*◌, true, List, leb, length, replicate, ℤ, pos, Result, Ok, Err}
use Rattle.refusals.specs.declared.Refusal.{Refusal}
use Rattle.refusals.specs.Verdicts.{Verdict, ◌before◌, unless, left}
use Rattle.tables.specs.Limits.{max_converted, max_actions}
use Rattle.tables.specs.Storage.{counts_of}
use Rattle.words.specs.Words.{Words, words_in, between}
use Rattle.grammar.specs.Grammar.{Answer, ◌then◌}
use Rattle.headers.specs.Headers.{header}
use Rattle.bodies.specs.Body.{ModelFile, Text, body, ended}
use Rattle.modelfile.specs.ModelFile.{max_bytes}
use Rattle.expected.specs.Expected.{laid_expected, expected_verdict}
use Rattle.digits.specs.Digits.{text_over}
use Rattle.written.specs.Text.{max_text, file_text}

-- the words of a file in order, its R statements in full
abbrev pub outcomes_text : ℕ → Words → Answer Text
outcomes_text fuel ws = header ws then λ c ws. body true fuel c ws

-- what a file says: its T, O and start numbers, and its rewards by action, state left, state reached and observation; refused by 2 to 6
abbrev pub said : List ℕ → ModelFile
said file = ended (length file) (outcomes_text (length file + 1) (words_in between file 0))

-- 25, then 26
unfoldable pub expect_verdict : ModelFile → Verdict
expect_verdict x =
    let m = x.tables in
    unless (leb m.states max_converted) 25 0 before expected_verdict (counts_of m) m.transition m.observation m.reward

-- 27 for an output that is too short, 1 for a file that is too long, then what the file says
unfoldable pub convert_verdict : ℕ → List ℕ → Verdict
convert_verdict room file =
    unless (leb max_text room) 27 0
    before unless (leb (length file) max_bytes) 1 0
    before (said file).verdict
    before expect_verdict (said file)

-- the rewards to write, by action and state
abbrev pub expected_rewards : ModelFile → List ℤ
expected_rewards x =
    let m = x.tables in
    laid_expected (counts_of m) m.transition m.observation m.reward (replicate (max_actions * max_converted) (pos 0))

-- the same model with expected rewards, as a model file
abbrev pub expected_text : ModelFile → List ℕ
expected_text x = let m = x.tables in file_text (counts_of m) m.transition m.observation (expected_rewards x) x.start

abbrev pub converted : List ℕ → List ℕ
converted file = expected_text (said file)

-- what the call answers: how many bytes are written, or the refusal
abbrev pub convert_answer : Verdict → ℕ → Result ℕ Refusal
convert_answer (Ok u) size = Ok size
convert_answer (Err e) size = Err e

-- the output as the call leaves it: what lies past the bytes written stays
abbrev pub converted_over : List ℕ → List ℕ → List ℕ
converted_over file out = left (convert_verdict (length out) file) (text_over 0 (converted file) out) out
