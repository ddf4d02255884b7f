-- What a refused file is answered: its number is 1 to 6, and where its place lies. Assumes nothing.
--
-- In order: a statement; the file; the totals; what a refusal says: its number, and its place in a file of so many bytes.
use Rattle.std.specs.Prelude.{Ok, Err}
use Rattle.integers.proofs.Kit.{◌≡◌, refl, sym, subst, true, false, Bool, cond, List, ℕ, ◌≤◌, ◌+◌, ◌*◌, suc, zero, arith, add-one}
use Rattle.integers.proofs.Kit.{leb, eqb, length, get_or, replicate, ℤ}
use Rattle.integers.specs.Whole.{total_to}
use Rattle.tables.specs.declared.Counts.{Counts}
use Rattle.refusals.specs.Verdicts.{Verdict, Refused, ◌before◌, unless, first_of}
use Rattle.tables.specs.Limits.{max_states, one, start_total}
use Rattle.tables.specs.Storage.{cell_in}
use Rattle.tables.specs.Judged.{rows_total}
use Rattle.words.specs.Words.{Words, word, end, between, words_of, words_in}
use Rattle.drafts.specs.Drafts.{stated}
use Rattle.numerals.specs.Numeral.{count_form, probability_form, start_form, reward_form}
use Rattle.grammar.specs.Grammar.{Answer, got, refused, choose, key, colon, star, key_named, field, index}
use Rattle.grammar.proofs.Named.{UpTo, up_more, words_up, Word-refused, Named, then-named, key-named, number-named, keyed, keys-named, field-named}
use Rattle.grammar.proofs.Named.{index-named, signed-named}
use Rattle.entries.specs.Entries.{Outcome, filled, stopped, upon, wholly, forms, probability, start_number, indexed, row, entry, table, entry_by, table_by}
use Rattle.rewards.specs.Rewards.{reward_number, starred, rewards, outcomes, rewards_or_outcomes}
use Rattle.statements.specs.Statements.{further, within, Draft, one_statement, statements}
use Rattle.rewards.specs.Rewards.{reward_by, rewards_by, outcome_by, outcomes_by}
use Rattle.statements.specs.Statements.{observation_or_reward_by, one_statement_by, reward_statement_by, statements_by}
use Rattle.headers.specs.Headers.{start_name, header, start_numbers, header_by, start_by}
use Rattle.bodies.specs.Body.{Text, no_cells, placed, sums_verdict, refused_file, judged_file, ended}
use Rattle.modelfile.specs.ModelFile.{max_bytes, Room, room_for, text_by}
use Rattle.bodies.specs.Body.{body, body_by}
use Rattle.modelfile.specs.ModelFile.{model_file, roomed_by, model_file_by}

module _ (size : ℕ) where
  abbrev pub Stops : {C : Type 0} → ℕ → Outcome C → Type 0
  Stops c (filled cells ws) = UpTo size c ws
  Stops c (stopped n p cells) = Word-refused size n p

  upon-left : {A C : Type 0} (c d : ℕ) (cells : C) (a : Answer A) (k : A → Words → Outcome C) → Named size c a
      → ((x : A) (ws : Words) → UpTo size c ws → Stops d (k x ws)) → Stops d (upon cells a k)
  upon-left c d cells (got x ws) k h g = g x ws h
  upon-left c d cells (refused n p) k h g = h

  choose-left : {C : Type 0} (c d : ℕ) (a : Answer ℕ) (k : Words → Outcome C) (o : Outcome C) → Named size c a
      → ((ws : Words) → UpTo size c ws → Stops d (k ws)) → Stops d o → Stops d (choose a k o)
  choose-left c d (got v ws) k o h g l = g ws h
  choose-left c d (refused n p) k o h g l = l

  within-left : {C D : Type 0} (c : ℕ) (f : C → D) (o : Outcome C) → Stops c o → Stops c (within f o)
  within-left c f (filled cells ws) h = h
  within-left c f (stopped n p cells) h = h

  further-left : {C : Type 0} (c d : ℕ) (o : Outcome C) (k : C → Words → Outcome C) → Stops c o
      → ((cells : C) (ws : Words) → UpTo size c ws → Stops d (k cells ws)) → Stops d (further o k)
  further-left c d (filled cells ws) k h g = g cells ws h
  further-left c d (stopped n p cells) k h g = h

  wholly-named : {C : Type 0} (c : ℕ) (o : Outcome C) → Stops c o → Named size c (wholly o)
  wholly-named c (filled cells ws) h = h
  wholly-named c (stopped n p cells) h = h

  module _ (c : ℕ) where
    indexed-named : (n : ℕ) (ws : Words) → UpTo size c ws → Named size c (indexed n ws)
    unfolding indexed
    indexed-named n ws h = then-named size c c (key colon ws) (λ _ ws. index n ws) (keyed size c colon ws h) (λ _ ws. index-named size c n ws)

    reward-named : (ws : Words) → UpTo size c ws → Named size c (reward_number ws)
    reward-named ws h = signed-named size c reward_form _ ws h

    -- ---- a statement

    row-left : (one_number : Words → Answer ℕ) (put : ℕ → ℕ → List ℕ → List ℕ) → ((ws : Words) → UpTo size c ws → Named size c (one_number ws))
        → (x k : ℕ) (cells : List ℕ) (ws : Words) → UpTo size c ws → Stops c (row one_number put x k cells ws)
    unfolding row
    row-left one_number put g x zero cells ws h = h
    row-left one_number put g x (suc k) cells ws h =
        upon-left c c cells (one_number ws) (λ p ws. row one_number put (x + 1) k (put x p cells) ws) (g ws h)
        (λ p ws. row-left one_number put g (x + 1) k (put x p cells) ws)

    entry-left : (m n w a s : ℕ) (cells : List ℕ) (ws : Words) → UpTo size c ws → Stops c (entry m n w a s cells ws)
    unfolding entry_by
    entry-left m n w a s cells ws h =
        upon-left c c cells (index w ws) _ (index-named size c w ws h)
        (λ x ws k. upon-left c c cells (probability ws) _ (number-named size c probability_form 0 _ ws k) (λ p ws l. l))

    table-left : (m n w : ℕ) (cells : List ℕ) (ws : Words) → UpTo size c ws → Stops c (table m n w cells ws)
    unfolding table_by
    table-left m n w cells ws h =
        upon-left c c cells (indexed m ws) _ (indexed-named m ws h) (λ a ws k. upon-left c c cells (indexed n ws) _ (indexed-named n ws k) (λ s ws l.
        choose-left c c (key colon ws) _ _ (keyed size c colon ws l) (λ ws. entry-left m n w a s cells ws)
        (row-left probability _ (λ ws. number-named size c probability_form 0 _ ws) 0 w cells ws l)))

    rewards-left : (m n : ℕ) (cells : List ℤ) (ws : Words) → UpTo size c ws → Stops c (rewards m n cells ws)
    unfolding rewards_by reward_by
    rewards-left m n cells ws h =
        upon-left c c cells (indexed m ws) _ (indexed-named m ws h) (λ a ws h. upon-left c c cells (indexed n ws) _ (indexed-named n ws h) (λ s ws h.
        upon-left c c cells (starred ws) _ (keys-named size c colon star ws h) (λ _ ws h.
        upon-left c c cells (starred ws) _ (keys-named size c colon star ws h) (λ _ ws h.
        upon-left c c cells (reward_number ws) _ (reward-named ws h) (λ r ws k. k)))))

    outcomes-left : (m n k : ℕ) (cells : List ℤ) (ws : Words) → UpTo size c ws → Stops c (outcomes m n k cells ws)
    unfolding outcomes_by outcome_by
    outcomes-left m n k cells ws h =
        upon-left c c cells (indexed m ws) _ (indexed-named m ws h) (λ a ws h. upon-left c c cells (indexed n ws) _ (indexed-named n ws h) (λ s ws h.
        upon-left c c cells (indexed n ws) _ (indexed-named n ws h) (λ s' ws h. upon-left c c cells (indexed k ws) _ (indexed-named k ws h) (λ o ws h.
        upon-left c c cells (reward_number ws) _ (reward-named ws h) (λ r ws k. k)))))

    either_left : (full : Bool) (m n k : ℕ) (cells : List ℤ) (ws : Words) → UpTo size c ws → Stops c (rewards_or_outcomes full m n k cells ws)
    either_left true m n k cells ws h = outcomes-left m n k cells ws h
    either_left false m n k cells ws h = rewards-left m n cells ws h

    -- it takes a word or more
    pub one_left : (full : Bool) (m n k : ℕ) (d : Draft) (ws : Words) → UpTo size (suc c) ws → Stops c (one_statement full m n k d ws)
    unfolding one_statement_by observation_or_reward_by reward_statement_by
    one_left full m n k d ws h =
        choose-left c c (key _ ws) _ _ (key-named size c _ ws h)
        (λ ws l. within-left c _ (table m n n d.transition ws) (table-left m n n d.transition ws l))
        (choose-left c c (key _ ws) _ _ (key-named size c _ ws h) (λ ws l. within-left c _ (table m n k d.observation ws)
        (table-left m n k d.observation ws l))
        (upon-left c c d (key _ ws) _ (key-named size c _ ws h) (λ _ ws l. within-left c _ (rewards_or_outcomes full m n k d.reward ws)
        (either_left full m n k d.reward ws l))))

  -- as many statements as there are words are enough
  pub statements-left : (full : Bool) (f m n k : ℕ) (d : Draft) (ws : Words) → UpTo size f ws → Stops f (statements full f m n k d ws)
  unfolding statements_by
  statements-left full zero m n k d (end at) h = h
  statements-left full zero m n k d (word at w rest) h = absurd h
  statements-left full (suc f) m n k d (end at) h = h
  statements-left full (suc f) m n k d (word at w rest) h =
      further-left f (suc f) (one_statement full m n k d (word at w rest)) (λ d ws. statements full f m n k d ws)
      (one_left f full m n k d (word at w rest) h)
      (λ d ws l. left-more f (statements full f m n k d ws) (statements-left full f m n k d ws l))
    where
      left-more : (c : ℕ) (o : Outcome Draft) → Stops c o → Stops (suc c) o
      left-more c (filled cells ws) h = up_more size c ws h
      left-more c (stopped n p cells) h = h

  -- ---- the file

  module _ (c : ℕ) where
    start-named : (n : ℕ) (ws : Words) → UpTo size c ws → Named size c (start_numbers n ws)
    unfolding start_by
    start-named n ws h =
        then-named size c c (key_named start_name ws) _ (keys-named size c start_name colon ws h) (λ _ ws h.
        wholly-named c (row start_number (stated 1 1 n 0 0) 0 n (replicate max_states 0) ws)
        (row-left c start_number (stated 1 1 n 0 0) (λ ws. number-named size c start_form 0 start_total ws) 0 n (replicate max_states 0) ws h))

    pub body-named : (full : Bool) (counts : Counts) (ws : Words) → UpTo size c ws → Named size c (body full c counts ws)
    unfolding body_by
    body-named full counts ws h =
        let n = counts.states in
        let m = counts.actions in
        let k = counts.observations in
        then-named size c c (start_numbers n ws) _ (start-named n ws h) (λ start ws h.
        then-named size c c (wholly (statements full c m n k (no_cells full) ws)) _ (wholly-named c (statements full c m n k (no_cells full) ws)
        (statements-left full c m n k (no_cells full) ws h))
        (λ cells ws h. h))

    room-named : (counts : Counts) (ws : Words) → UpTo size c ws → (b : Bool) → Named size c (cond b (body false c counts ws) (refused 3 0))
    room-named counts ws h true = body-named false counts ws h
    room-named counts ws h false = record { low = omega arith; high = omega arith; place = omega arith }

    header-named : (ws : Words) → UpTo size c ws → Named size c (header ws)
    unfolding header_by
    header-named ws h =
        then-named size c c (field _ probability_form 0 _ ws) _ (field-named size c _ probability_form 0 _ ws h) (λ d ws h.
        then-named size c c (key_named _ ws) _ (keys-named size c _ colon ws h) (λ _ ws h.
        then-named size c c (key _ ws) _ (keyed size c _ ws h) (λ _ ws h.
        then-named size c c (field _ count_form 1 _ ws) _ (field-named size c _ count_form 1 _ ws h) (λ n ws h.
        then-named size c c (field _ count_form 1 _ ws) _ (field-named size c _ count_form 1 _ ws h) (λ m ws h.
        then-named size c c (field _ count_form 1 _ ws) _ (field-named size c _ count_form 1 _ ws h) (λ k ws h. h))))))

    text-named : (r : Room) (ws : Words) → UpTo size c ws → Named size c (text_by forms r c ws)
    unfolding roomed_by
    text-named r ws h = then-named size c c (header ws) _ (header-named ws h) (λ counts ws h. room-named counts ws h (room_for r counts))

-- ---- the totals

abbrev Says : (ℕ → ℕ → Type 0) → Verdict → Type 0
Says P (Ok u) = Unit
Says P (Err e) = P e.0 e.1

says-before : (P : ℕ → ℕ → Type 0) (v w : Verdict) → Says P v → Says P w → Says P (v before w)
says-before P (Ok u) w h k = k
says-before P (Err e) w h k = h

says-unless : (P : ℕ → ℕ → Type 0) (b : Bool) (n p : ℕ) → P n p → Says P (unless b n p)
says-unless P true n p h = tt
says-unless P false n p h = h

says_first : (P : ℕ → ℕ → Type 0) (n : ℕ) (v : ℕ → Verdict) → ((i : ℕ) → Says P (v i)) → Says P (first_of n v)
unfolding first_of
says_first P zero v h = tt
says_first P (suc n) v h = says-before P (first_of n v) (v n) (says_first P n v h) (h n)

says-rows : (number m n w : ℕ) (cell : ℕ → ℕ → ℕ → ℕ) → Says (λ k p. k ≡ number) (rows_total number m n w cell)
unfolding rows_total
says-rows number m n w cell =
    says_first (λ k p. k ≡ number) m _ (λ a.
    says_first (λ k p. k ≡ number) n _ (λ s. says-unless (λ k p. k ≡ number) (eqb (total_to w (λ x. cell a s x)) one) number (a * n + s) refl))

-- ---- what a refusal says: its number, and its place in a file of so many bytes
pub record RefusedAt (size n p : ℕ) : Type 0 where
  pub low : 1 ≤ n
  pub high : n ≤ 6
  pub long : n ≡ 1 → p ≡ 0
  pub word : 2 ≤ n → n ≤ 3 → p ≤ size
  pub total : 4 ≤ n → p ≡ size

total-at : (size n : ℕ) → 4 ≤ n → n ≤ 6 → RefusedAt size n size
total-at size n h k = record { low = omega arith; high = k; long = λ e. absurd (omega arith); word = λ l m. omega arith; total = λ l. refl }

says-placed : (size number : ℕ) (v : Verdict) → 4 ≤ number → number ≤ 6 → Says (λ k p. k ≡ number) v → Says (RefusedAt size) (placed size v)
says-placed size number (Ok u) h k e = tt
says-placed size number (Err r) h k e = total-at size r.0 (omega arith) (omega arith)

says-sums : (size : ℕ) (t : Text) → Says (RefusedAt size) (sums_verdict size t)
unfolding sums_verdict
says-sums size t =
    let m = t.tables in
    let moves = rows_total 5 m.actions m.states m.states (cell_in m.states m.states m.transition) in
    let seen = rows_total 6 m.actions m.states m.observations (cell_in m.states m.observations m.observation) in
    says-before (RefusedAt size) (unless (eqb (total_to m.states (λ s. get_or t.start s 0)) start_total) 4 size) (placed size moves before placed size seen)
    (says-unless (RefusedAt size) (eqb (total_to m.states (λ s. get_or t.start s 0)) start_total) 4 size (total-at size 4 (omega arith) (omega arith)))
    (says-before (RefusedAt size) (placed size moves) (placed size seen)
    (says-placed size 5 moves (omega arith) (omega arith) (says-rows 5 m.actions m.states m.states (cell_in m.states m.states m.transition)))
    (says-placed size 6 seen (omega arith) (omega arith) (says-rows 6 m.actions m.states m.observations
    (cell_in m.states m.observations m.observation))))

says-judged : (size : ℕ) (v : Verdict) (t : Text) → Says (RefusedAt size) v → Says (RefusedAt size) (judged_file v t).verdict
says-judged size (Ok u) t h = tt
says-judged size (Err e) t h = h

says-ended : (size c : ℕ) (a : Answer Text) → Named size c a → Says (RefusedAt size) (ended size a).verdict
says-ended size c (got t ws) h = says-judged size (sums_verdict size t) t (says-sums size t)
says-ended size c (refused n p) h =
    record {
      low = omega (arith, h.low);
      high = omega (arith, h.high);
      long = λ e. absurd (omega (arith, h.low));
      word = λ l m. h.place;
      total =
          λ l. absurd (omega (arith, h.high));
    }

says-file : (r : Room) (file : List ℕ) (short : Bool) → Says (RefusedAt (length file))
    (cond short (ended (length file) (text_by forms r (length file + 1) (words_in between file 0))) (refused_file 1 0)).verdict
unfolding words_in
says-file r file true =
    let words = words_up between (length file) 0 file (omega arith) in
    let more : UpTo (length file) (length file + 1) (words_of between 0 file) = subst (λ (c : ℕ). UpTo (length file) c (words_of between 0 file))
    (sym (add-one (length file))) (up_more (length file) (length file) (words_of between 0 file) words) in
    says-ended (length file) (length file + 1) (text_by forms r (length file + 1) (words_of between 0 file))
    (text-named (length file) (length file + 1) r (words_of between 0 file) more)
says-file r file false =
    record { low = omega arith; high = omega arith; long = λ e. refl; word = λ l m. absurd (omega arith); total = λ l. absurd (omega arith) }

-- A word is refused by 2 or 3 where it stands, or at the end if it is missing, and slices without room by 3 at 0. A file has no more words than bytes and a
-- statement takes one or more, so that the statements, of which one more than the file has bytes are allowed, never run out. What is left is 1 for the length,
-- and 4, 5 and 6 at the end. Qed.
pub read-refused : (r : Room) (file : List ℕ) (n p : ℕ) → (model_file r file).verdict ≡ Refused n p → RefusedAt (length file) n p
unfolding model_file_by
read-refused r file n p e = subst (Says (RefusedAt (length file))) e (says-file r file (leb (length file) max_bytes))
