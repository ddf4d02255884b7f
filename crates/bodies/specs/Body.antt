-- What a model file is read as, from its counts on: the start numbers, any number of statements, and then the totals.
use Rattle.std.specs.Prelude.{ℕ, ◌*◌, Bool, cond, List, eqb, get_or, replicate, pos, Result, Ok, Err}
use Rattle.integers.specs.Whole.{total_to}
use Rattle.tables.specs.declared.Counts.{Counts}
use Rattle.tables.specs.Tables.{Tables}
use Rattle.refusals.specs.declared.Refusal.{Refusal}
use Rattle.refusals.specs.Verdicts.{Verdict, Fine, Refused, ◌before◌, unless}
use Rattle.tables.specs.Limits.{max_states, max_converted, max_actions, max_observations, start_total}
use Rattle.tables.specs.Storage.{cell_in, tables_in}
use Rattle.tables.specs.Judged.{rows_total, no_tables}
use Rattle.words.specs.Words.{Words}
use Rattle.grammar.specs.Grammar.{Answer, got, refused, ◌then◌}
use Rattle.entries.specs.Entries.{wholly, Forms, forms}
use Rattle.statements.specs.Statements.{Draft, draft, statements_by}
use Rattle.headers.specs.Headers.{start_by}

-- how many rewards a draft has: by action and state, or where they are stated in full by action, state left, state reached and observation
abbrev pub reward_cells : Bool → ℕ
reward_cells full = cond full (max_actions * max_converted * max_converted * max_observations) (max_actions * max_states)

-- unstated entries are 0
abbrev pub no_cells : Bool → Draft
no_cells full =
    draft (replicate (max_actions * max_states * max_states) 0) (replicate (max_actions * max_states * max_observations) 0)
    (replicate (reward_cells full) (pos 0))

-- the tables and the start numbers
pub record Text : Type 0 where
  pub tables : Tables
  pub start : List ℕ

abbrev pub text_of : Counts → List ℕ → Draft → Text
text_of c start cells = record { tables = tables_in c cells.transition cells.observation cells.reward; start = start }

-- the start numbers, then the statements
unfoldable pub body_by : Forms → Bool → ℕ → Counts → Words → Answer Text
body_by f full fuel c ws =
    start_by f c.states ws then λ start ws.
    wholly (statements_by f full fuel c.actions c.states c.observations (no_cells full) ws) then λ cells ws. got (text_of c start cells) ws

-- the same with the forms that numbers have
abbrev pub body : Bool → ℕ → Counts → Words → Answer Text
body = body_by forms

-- ---- the totals, after the last statement

-- the same refusal, at the end of the file
abbrev pub placed : ℕ → Verdict → Verdict
placed size (Ok u) = Fine
placed size (Err e) = Refused e.0 size

-- 4, then 5, then 6
unfoldable pub sums_verdict : ℕ → Text → Verdict
sums_verdict size t =
    let m = t.tables in
    unless (eqb (total_to m.states (λ s. get_or t.start s 0)) start_total) 4 size
    before placed size (rows_total 5 m.actions m.states m.states (cell_in m.states m.states m.transition))
    before placed size (rows_total 6 m.actions m.states m.observations (cell_in m.states m.observations m.observation))

-- ---- the file

-- what it is refused for, its tables and its start numbers; of a refused file, every part but the refusal is 0
pub record ModelFile : Type 0 where
  pub verdict : Verdict
  pub tables : Tables
  pub start : List ℕ

abbrev pub refused_file : ℕ → ℕ → ModelFile
refused_file number place = record { verdict = Refused number place; tables = no_tables; start = replicate max_states 0 }

abbrev pub judged_file : Verdict → Text → ModelFile
judged_file (Ok u) t = record { verdict = Fine; tables = t.tables; start = t.start }
judged_file (Err e) t = refused_file e.0 e.1

abbrev pub ended : ℕ → Answer Text → ModelFile
ended size (got t ws) = judged_file (sums_verdict size t) t
ended size (refused number place) = refused_file number place

-- ---- what is answered of a file: its counts, or its refusal

abbrev pub with_counts : Verdict → Counts → Result Counts Refusal
with_counts (Ok u) c = Ok c
with_counts (Err e) c = Err e
