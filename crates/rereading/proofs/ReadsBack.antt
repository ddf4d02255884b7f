-- A written file reads back: its headers, its start numbers and its statements are read, and each cell is what was written. Assumes nothing.
--
-- In order: numbers within their limits; the whole file.
use Rattle.integers.proofs.Kit.{◌≡◌, ◌∙◌, refl, ap, sym, true, List, [], ℕ, ◌≤◌, ◌<◌, ◌+◌, ◌*◌, suc, zero, ◌-◌, arith, leb-true, length, get_or, ℤ, nat_abs}
use mathlib.Core.List.{◌++◌, append-nil}
use lib.ListN.{length-append}
use Rattle.integers.proofs.Searches.{and-true, every-at}
use Rattle.tables.specs.declared.Counts.{Counts}
use Rattle.tables.specs.Limits.{max_reward, start_total}
use Rattle.tables.specs.Model.{Model}
use Rattle.tables.specs.Storage.{model_in}
use Rattle.tables.specs.Steps.{Stored}
use Rattle.tables.specs.Judged.{cells_within, rewards_within, limits_hold}
use Rattle.tables.proofs.Accepted.{count-true, cells-true}
use Rattle.words.specs.Words.{end, words_in, words_of, between}
use Rattle.entries.specs.Entries.{filled, wholly}
use Rattle.statements.specs.Statements.{Draft, draft, statements_by}
use Rattle.written.specs.Text.{header_text, start_text, table_text, rewards_text, file_text}
use Rattle.rereading.specs.Rereading.{SameNumbers, ReadsBack, FilesReadBack}
use Rattle.rereading.proofs.Spelling.{Any, Through, and_then}
use Rattle.rereading.proofs.Cells.{table_done, rewards_done, table-set, rewards-set}
use Rattle.rereading.proofs.Headers.{CountsWithin, headers-read, start_done, start-read, start-same}
use Rattle.rereading.proofs.Statements.{reading, table-long, rewards-long, transitions-read, observations-read, rewards-read}

-- ---- numbers within their limits

record TablesWithin (M : Model) : Type 0 where
  transitions : cells_within M.actions M.states M.states (λ a s s'. M.transition s a s') ≡ true
  observed : cells_within M.actions M.states M.observations (λ a s' o. M.observation a s' o) ≡ true
  rewards : rewards_within M.actions M.states M.reward ≡ true

limits-hold : (c : Counts) (transition observation : List ℕ) (reward : List ℤ) → limits_hold (model_in c transition observation reward) ≡ true
    → CountsWithin c × TablesWithin (model_in c transition observation reward)
unfolding limits_hold
limits-hold c transition observation reward e =
    let all = and-true _ _ e in
    let n = and-true _ _ all.0 in
    let m = and-true _ _ n.1 in
    let d = and-true _ _ all.1 in
    let t = and-true _ _ d.1 in
    let o = and-true _ _ t.1 in (
      record {
        states = count-true _ _ n.0;
        actions = count-true _ _ m.0;
        observations = count-true _ _ m.1;
        discount = leb-true _ _ d.0;
      },
      record { transitions = t.0; observed = o.0; rewards = o.1 },
    )

reward-within : (m n : ℕ) (reward : ℕ → ℕ → ℤ) → rewards_within m n reward ≡ true → (a s : ℕ) → a < m → s < n → nat_abs (reward s a) ≤ max_reward
reward-within m n reward e a s la ls = leb-true _ _ (every-at n _ (every-at m _ e a la) s ls)

-- ---- the whole file

at-end : (most m n k : ℕ) (d : Draft) (p : ℕ) → reading m n k most d (end p) ≡ filled d (end p)
unfolding statements_by
at-end zero m n k d p = refl
at-end (suc most) m n k d p = refl

module _ (c : Counts) (transition observation : List ℕ) (reward : List ℤ) (start : List ℕ) where
  abbrev m : ℕ
  m = c.actions

  abbrev n : ℕ
  n = c.states

  abbrev k : ℕ
  k = c.observations

  abbrev M : Model
  M = model_in c transition observation reward

  abbrev moves : ℕ → ℕ → ℕ → ℕ
  moves a s s' = M.transition s a s'

  -- the three tables as texts, one after the other
  abbrev statements_text : List ℕ
  statements_text = table_text 84 m n n moves ++ (table_text 79 m n k M.observation ++ rewards_text m n M.reward)

  -- the cells after all statements
  abbrev done_all : Draft → Draft
  done_all d =
      draft (table_done m n n moves d.transition) (table_done m n k M.observation d.observation) (rewards_done m n M.reward d.reward)

  all-stated : CountsWithin c → TablesWithin M → (d : Draft) (more : ℕ)
      → Through Any (reading m n k (m * n + (m * n + (m * n + more))) d) statements_text (reading m n k more (done_all d))
  all-stated counts fit d more =
      let lm : m ≤ 100 = omega (arith, counts.actions) in
      let ln : n ≤ 100 = omega (arith, counts.states) in
      and_then {D = Any}
      (transitions-read m n k lm ln d.observation d.reward moves (omega (arith, counts.states))
      (λ a s x la ls lx. cells-true m n n moves fit.transitions a la s ls x lx) (m * n + (m * n + more)) d.transition)
      (and_then {D = Any}
      (observations-read m n k lm ln (done_all d).transition d.reward M.observation (omega (arith, counts.observations))
      (λ a s x la ls lx. cells-true m n k M.observation fit.observed a la s ls x lx) (m * n + more) d.observation)
      (rewards-read m n k lm ln (done_all d).transition (done_all d).observation M.reward (reward-within m n M.reward fit.rewards) more d.reward)
      (λ s e. tt)) (λ s e. tt)

  done-same : (d : Draft) → Stored c d.transition d.observation d.reward
      → SameNumbers M (model_in c (done_all d).transition (done_all d).observation (done_all d).reward)
  done-same d r = record {
    transitions = λ a la s ls s' lx. table-set m n n moves a s s' la ls lx d.transition r.transitions;
    observations = λ a la s' ls o lo. table-set m n k M.observation a s' o la ls lo d.observation r.observed;
    rewards = λ a la s ls. rewards-set m n M.reward a s la ls d.reward r.rewards;
  }

  abbrev file : List ℕ
  file = file_text c transition observation reward start

  -- there are more bytes than statements
  enough : m * n + (m * n + m * n) ≤ length file
  unfolding file_text
  enough =
      let t = table_text 84 m n n moves in
      let o = table_text 79 m n k M.observation in
      let r = rewards_text m n M.reward in
      omega (
        arith,
        table-long 84 m n n moves,
        table-long 79 m n k M.observation,
        rewards-long m n M.reward,
        length-append o r,
        length-append t (o ++ r),
        length-append (start_text n start) (t ++ (o ++ r)),
        length-append (header_text c) (start_text n start ++ (t ++ (o ++ r))),
      )

  whole-file : CountsWithin c → TablesWithin M → ((s : ℕ) → s < n → get_or start s 0 ≤ start_total) → (d : Draft)
      → Stored c d.transition d.observation d.reward → ReadsBack c transition observation reward start d
  unfolding file_text words_in words_of
  whole-file counts fit small d stored =
      let more = length file + 1 - (m * n + (m * n + m * n)) in
      let fuel : length file + 1 ≡ m * n + (m * n + (m * n + more)) = omega (arith, enough) in
      let one = (headers-read c counts).onto 0 (start_text n start ++ statements_text) tt in
      let two = (start-read n start small).onto one.to statements_text tt in
      let three = (all-stated counts fit d more).onto two.to [] tt in
      record {
        begin = start_done n start;
        cells = done_all d;
        body = words_of between one.to (start_text n start ++ statements_text);
        rest = words_of between two.to statements_text;
        size = three.to;
        headed = one.is;
        started = two.is;
        stated = ap wholly (ap (λ (i : ℕ). reading m n k i d (words_of between two.to statements_text)) fuel
            ∙ ap (λ (l : List ℕ). reading m n k (m * n + (m * n + (m * n + more))) d (words_of between two.to l)) (sym (append-nil statements_text))
            ∙ three.is ∙ at-end more m n k (done_all d) three.to);
        same = done-same d stored;
        starts = start-same n start counts.states.1;
      }

-- Names, numbers, colons and stars are each one word, and the words of a line are read as what the line was written of. There are fewer statements than bytes.
-- Each cell is stated once, by its own number. Qed.
pub reads-back : FilesReadBack
reads-back c transition observation reward start hand limits small stored =
    let h = limits-hold c transition observation reward limits in
    whole-file c transition observation reward start h.0 h.1 small hand stored
