-- A written file, read whole: it is not refused, and its tables and start numbers are those that were written. Assumes nothing.
--
-- In order: what a valid model has; the totals; the file.
use Rattle.integers.proofs.Kit.{◌≡◌, ◌∙◌, ap, subst, subst⁻¹, true, false, Bool, cond, List, ℕ, ◌≤◌, ◌*◌, ◌+◌, mul-le-mul, le-leb, eq-eqb}
use Rattle.integers.proofs.Kit.{length, get_or, length-replicate, ℤ, pos}
use Rattle.integers.specs.Whole.{total_to}
use Rattle.integers.proofs.Sums.{total-cong, total-part}
use Rattle.tables.specs.declared.Counts.{Counts}
use Rattle.refusals.specs.Verdicts.{Verdict, Fine, ◌before◌, unless}
use Rattle.tables.specs.Limits.{max_states, max_actions, max_observations, start_total}
use Rattle.tables.specs.Model.{Valid}
use Rattle.tables.specs.Storage.{model_in, model_of, counts_of, cell_in}
use Rattle.tables.specs.Steps.{Stored}
use Rattle.tables.specs.Judged.{limits_hold, rows_total, rows_verdict, model_verdict}
use Rattle.tables.proofs.Accepted.{is-valid}
use Rattle.refusals.proofs.Refusals.{before-fine, unless-fine}
use Rattle.words.specs.Words.{end, words_in, between}
use Rattle.grammar.specs.Grammar.{Answer, got, refused, ◌then◌}
use Rattle.entries.specs.Entries.{wholly, forms}
use Rattle.statements.specs.Statements.{Draft, statements}
use Rattle.bodies.specs.Body.{no_cells, text_of, body_by, placed, sums_verdict, ModelFile, judged_file}
use Rattle.modelfile.specs.ModelFile.{max_bytes, Room, room_for, roomed_by, text_by}
use Rattle.bodies.specs.Body.{refused_file, ended}
use Rattle.modelfile.specs.ModelFile.{model_file, model_file_by}
use Rattle.written.specs.Text.{file_text}
use Rattle.rereading.specs.Rereading.{ReadsBack, SameNumbers, FileReadsBack, ModelsReadBack}
use Rattle.rereading.proofs.Valid.{same-valid}
use Rattle.rereading.proofs.ReadsBack.{reads-back}

-- nothing stated yet
abbrev none : Draft
none = no_cells false

-- ---- what a valid model has

module _ (c : Counts) (transition observation : List ℕ) (reward : List ℤ) (v : Valid (model_in c transition observation reward)) where
  limits : limits_hold (model_in c transition observation reward) ≡ true
  unfolding model_verdict
  limits = unless-fine _ 3 0 (before-fine _ _ (is-valid (model_in c transition observation reward) v)).0

  rows-fine : (rows_total 5 c.actions c.states c.states (cell_in c.states c.states transition) ≡ Fine)
      × (rows_total 6 c.actions c.states c.observations (cell_in c.states c.observations observation) ≡ Fine)
  unfolding model_verdict
  rows-fine =
      let M = model_in c transition observation reward in
      before-fine _ _ (before-fine (unless (limits_hold M) 3 0) (rows_verdict M) (is-valid M v)).1

  -- there are cells enough for it
  no_cells-stored : Stored c none.transition none.observation none.reward
  no_cells-stored =
      let rows : c.actions * c.states ≤ max_actions * max_states = mul-le-mul v.few_actions v.few_states in
      record {
        transitions = subst⁻¹ (λ (i : ℕ). c.actions * c.states * c.states ≤ i) (length-replicate {A = ℕ} (max_actions * max_states * max_states) 0)
            (mul-le-mul rows v.few_states);
        observed = subst⁻¹ (λ (i : ℕ). c.actions * c.states * c.observations ≤ i) (length-replicate {A = ℕ} (max_actions * max_states * max_observations) 0)
            (mul-le-mul rows v.few_observations);
        rewards = subst⁻¹ (λ (i : ℕ). c.actions * c.states ≤ i) (length-replicate (max_actions * max_states) (pos 0)) rows;
      }

-- ---- the totals

all-fine : (size : ℕ) {b : Bool} {v w : Verdict} → b ≡ true → v ≡ Fine → w ≡ Fine → (unless b 4 size before placed size v before placed size w) ≡ Fine
all-fine size e f g = rw (e, f, g)

sums-fine : (size : ℕ) (c : Counts) (begin : List ℕ) (cells : Draft) → Valid (model_in c cells.transition cells.observation cells.reward)
    → total_to c.states (λ s. get_or begin s 0) ≡ start_total → sums_verdict size (text_of c begin cells) ≡ Fine
unfolding sums_verdict
sums-fine size c begin cells v e =
    let rows = rows-fine c cells.transition cells.observation cells.reward v in
    all-fine size (eq-eqb _ _ e) rows.0 rows.1

-- ---- the file

module _ (c : Counts) (transition observation : List ℕ) (reward : List ℤ) (start : List ℕ) (room : Room) where
  abbrev file : List ℕ
  file = file_text c transition observation reward start

  -- its words, one part after the other
  text-read : room_for room c ≡ true → (r : ReadsBack c transition observation reward start none)
      → text_by forms room (length file + 1) (words_in between file 0) ≡ got (text_of c r.begin r.cells) (end r.size)
  unfolding roomed_by body_by
  text-read enough r =
      ap (λ (a : Answer Counts). a then λ c ws. roomed_by forms room (length file + 1) c ws) r.headed
      ∙ ap (λ (t : Bool). cond t (body_by forms false (length file + 1) c r.body) (refused 3 0)) enough
      ∙ ap (λ (a : Answer (List ℕ)). a then λ start ws. wholly (statements false (length file + 1) c.actions c.states c.observations none ws) then
      λ cells ws. got (text_of c start cells) ws) r.started
      ∙ ap (λ (a : Answer Draft). a then λ cells ws. got (text_of c r.begin cells) ws) r.stated

  file-read : room_for room c ≡ true → length file ≤ max_bytes → (r : ReadsBack c transition observation reward start none)
      → sums_verdict (length file) (text_of c r.begin r.cells) ≡ Fine → model_file room file ≡ judged_file Fine (text_of c r.begin r.cells)
  unfolding model_file_by
  file-read enough short r fine =
      ap (λ (t : Bool). cond t (ended (length file) (text_by forms room (length file + 1) (words_in between file 0))) (refused_file 1 0)) (le-leb _ _ short)
      ∙ ap (ended (length file)) (text-read enough r) ∙ ap (λ (v : Verdict). judged_file v (text_of c r.begin r.cells)) fine

  -- what a file that is read as such a text says
  read_back : (r : ReadsBack c transition observation reward start none) → model_file room file ≡ judged_file Fine (text_of c r.begin r.cells)
      → FileReadsBack c transition observation reward start room
  read_back r e = record {
    verdict = ap (λ (f : ModelFile). f.verdict) e;
    counts = ap (λ (f : ModelFile). counts_of f.tables) e;
    same = subst⁻¹ (λ (f : ModelFile). SameNumbers (model_in c transition observation reward) (model_of f.tables)) e r.same;
    starts = λ s l. ap (λ (f : ModelFile). get_or f.start s 0) e ∙ r.starts s l;
  }

-- Its parts are read, and what is read has the totals of what was written. Qed.
pub models-read-back : ModelsReadBack
models-read-back c transition observation reward start room v total enough short =
    let r = reads-back c transition observation reward start none (limits c transition observation reward v)
    (λ s l. subst (λ (i : ℕ). get_or start s 0 ≤ i) total (total-part c.states (λ s. get_or start s 0) s l))
    (no_cells-stored c transition observation reward v) in
    read_back c transition observation reward start room r (file-read c transition observation reward start room enough short r
    (sums-fine (length (file_text c transition observation reward start)) c r.begin r.cells
    (same-valid c transition r.cells.transition observation r.cells.observation reward r.cells.reward r.same v)
    (total-cong c.states _ _ r.starts ∙ total)))
