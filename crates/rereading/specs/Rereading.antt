-- What it says that a written model file reads back.
use Rattle.std.specs.Prelude.{ℕ, ◌+◌, ◌≤◌, ◌<◌, ◌≡◌, true, false, List, length, get_or, ℤ}
use Rattle.integers.specs.Whole.{total_to}
use Rattle.tables.specs.declared.Counts.{Counts}
use Rattle.refusals.specs.Verdicts.{Fine}
use Rattle.tables.specs.Limits.{start_total}
use Rattle.tables.specs.Model.{Model, Valid}
use Rattle.tables.specs.Storage.{model_in, model_of, counts_of}
use Rattle.tables.specs.Steps.{Stored}
use Rattle.tables.specs.Judged.{limits_hold}
use Rattle.words.specs.Words.{Words, end, words_in, between}
use Rattle.grammar.specs.Grammar.{got}
use Rattle.entries.specs.Entries.{wholly}
use Rattle.statements.specs.Statements.{Draft, statements}
use Rattle.headers.specs.Headers.{header, start_numbers}
use Rattle.modelfile.specs.ModelFile.{max_bytes, Room, room_for, model_file}
use Rattle.written.specs.Text.{file_text}

-- the numbers of N are those of M, below the counts of M
pub record SameNumbers (M N : Model) : Type 0 where
  pub transitions : (a : ℕ) → a < M.actions → (s : ℕ) → s < M.states → (s' : ℕ) → s' < M.states → N.transition s a s' ≡ M.transition s a s'
  pub observations : (a : ℕ) → a < M.actions → (s' : ℕ) → s' < M.states → (o : ℕ) → o < M.observations → N.observation a s' o ≡ M.observation a s' o
  pub rewards : (a : ℕ) → a < M.actions → (s : ℕ) → s < M.states → N.reward s a ≡ M.reward s a

-- a file is read to its end: its headers, its start numbers, and its statements upon cells that are at hand; what is read is what was written
pub record ReadsBack (c : Counts) (transition observation : List ℕ) (reward : List ℤ) (start : List ℕ) (hand : Draft) : Type 0 where
  pub begin : List ℕ
  pub cells : Draft
  pub body : Words
  pub rest : Words
  pub size : ℕ
  pub headed : header (words_in between (file_text c transition observation reward start) 0) ≡ got c body
  pub started : start_numbers c.states body ≡ got begin rest
  pub stated : wholly (statements false (length (file_text c transition observation reward start) + 1) c.actions c.states c.observations hand rest)
      ≡ got cells (end size)
  pub same : SameNumbers (model_in c transition observation reward) (model_in c cells.transition cells.observation cells.reward)
  pub starts : (s : ℕ) → s < c.states → get_or begin s 0 ≡ get_or start s 0

-- so is every file that is written of a model within the limits and of start numbers up to 1, upon cells enough for its counts
abbrev pub FilesReadBack : Type 0
FilesReadBack =
    (c : Counts) (transition observation : List ℕ) (reward : List ℤ) (start : List ℕ) (hand : Draft)
    → limits_hold (model_in c transition observation reward) ≡ true
    → ((s : ℕ) → s < c.states → get_or start s 0 ≤ start_total) → Stored c hand.transition hand.observation hand.reward
    → ReadsBack c transition observation reward start hand

-- ---- the whole file

-- a file that is read into such slices is not refused, and its tables and start numbers are those that were written
pub record FileReadsBack (c : Counts) (transition observation : List ℕ) (reward : List ℤ) (start : List ℕ) (room : Room) : Type 0 where
  pub verdict : (model_file room (file_text c transition observation reward start)).verdict ≡ Fine
  pub counts : counts_of (model_file room (file_text c transition observation reward start)).tables ≡ c
  pub same : SameNumbers (model_in c transition observation reward) (model_of (model_file room (file_text c transition observation reward start)).tables)
  pub starts : (s : ℕ) → s < c.states → get_or (model_file room (file_text c transition observation reward start)).start s 0 ≡ get_or start s 0

-- so is every file, if it is not too long, that is written of a model that is not refused and of start numbers that total 1
abbrev pub ModelsReadBack : Type 0
ModelsReadBack =
    (c : Counts) (transition observation : List ℕ) (reward : List ℤ) (start : List ℕ) (room : Room) → Valid (model_in c transition observation reward)
    → total_to c.states (λ s. get_or start s 0) ≡ start_total → room_for room c ≡ true → length (file_text c transition observation reward start) ≤ max_bytes
    → FileReadsBack c transition observation reward start room
