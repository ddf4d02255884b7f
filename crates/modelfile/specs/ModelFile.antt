-- What a model file is read as: its headers in order, and where slices have room for its tables what follows them.
use Rattle.std.specs.Prelude.{ℕ, ◌+◌, Bool, false, cond, List, leb, length}
use Rattle.tables.specs.declared.Counts.{Counts}
use Rattle.tables.specs.Judged.{has_room}
use Rattle.words.specs.Words.{Words, words_in, between}
use Rattle.grammar.specs.Grammar.{Answer, refused, ◌then◌}
use Rattle.entries.specs.Entries.{Forms, forms}
use Rattle.headers.specs.Headers.{header_by}
use Rattle.bodies.specs.Body.{Text, body_by, ModelFile, refused_file, ended}

abbrev pub max_bytes : ℕ
max_bytes = 32_768

-- how long the slices are that are lent for T, O and R
pub record Room : Type 0 where
  pub transition : ℕ
  pub observation : ℕ
  pub reward : ℕ

abbrev pub room : ℕ → ℕ → ℕ → Room
room transition observation reward = record { transition = transition; observation = observation; reward = reward }

abbrev pub room_for : Room → Counts → Bool
room_for r c = has_room c r.transition r.observation r.reward

-- a slice shorter than its counts need gets 3 at 0, once they are read
unfoldable pub roomed_by : Forms → Room → ℕ → Counts → Words → Answer Text
roomed_by f r fuel c ws = cond (room_for r c) (body_by f false fuel c ws) (refused 3 0)

abbrev pub text_by : Forms → Room → ℕ → Words → Answer Text
text_by f r fuel ws = header_by f ws then λ c ws. roomed_by f r fuel c ws

-- ---- the file, read into slices of such lengths

-- 1 for a file that is too long
unfoldable pub model_file_by : Forms → Room → List ℕ → ModelFile
model_file_by f r file =
    cond (leb (length file) max_bytes) (ended (length file) (text_by f r (length file + 1) (words_in between file 0))) (refused_file 1 0)

-- ---- the same with the forms that numbers have

abbrev pub roomed : Room → ℕ → Counts → Words → Answer Text
roomed = roomed_by forms

abbrev pub model_file : Room → List ℕ → ModelFile
model_file = model_file_by forms
