-- The statements of a written file, read again: a row of T or O, a reward, and all of them one after the other. Assumes nothing.
--
-- In order: a row of a table; a reward; one part after the other; statements; there are more bytes than statements.
use Rattle.integers.proofs.Kit.{◌≡◌, ◌∙◌, refl, ap, subst, subst⁻¹, true, false, Bool, cond, List, [], ◌∷◌, ℕ, ◌≤◌, ◌<◌, ◌+◌, ◌*◌, suc, zero, ◌-◌, arith}
use Rattle.integers.proofs.Kit.{length, ℤ, nat_abs}
use mathlib.Core.List.{◌++◌, append_assoc}
use lib.ListN.{length-append}
use Rattle.words.specs.Class.{class_of}
use Rattle.words.specs.Words.{Words, role_of}
use Rattle.words.specs.Steps.{is_end}
use Rattle.tables.specs.Limits.{one, max_reward}
use Rattle.numerals.specs.Numeral.{negative, signed}
use Rattle.drafts.specs.Drafts.{stated, rewarded}
use Rattle.grammar.specs.Grammar.{got, ◌then◌, choose, key, keys, colon, star, same, Finding, fits, unfit, answered, limited, magnitude, signed_number}
use Rattle.grammar.proofs.Laws.{limit-in}
use Rattle.entries.specs.Entries.{Outcome, filled, upon, forms, probability, row, entry_by, table_by, table}
use Rattle.rewards.specs.Rewards.{reward_number, starred, reward_by, rewards_by}
use Rattle.statements.specs.Statements.{within, further, Draft, draft, transition_key, observation_key, reward_key}
use Rattle.statements.specs.Statements.{reward_statement_by, observation_or_reward_by, one_statement_by, statements_by, observation_or_reward}
use Rattle.rewards.specs.Rewards.{rewards}
use Rattle.statements.specs.Statements.{one_statement, statements}
use Rattle.written.specs.Text.{parts_to, fixed, signed_fixed, newline, any_outcome, row_text, table_text, reward_text, rewards_text, opening}
use Rattle.rereading.proofs.Spelling.{Ends, Any, plain, Through, stays, and_then, past-space, past-line, after, each-allows, IsWord, a_word, takes-word}
use Rattle.rereading.proofs.Spelling.{Refuses, no_word, refuses-parts, refuses-spaced, then-on, upon-on, chosen, not_chosen, not-ended}
use Rattle.rereading.proofs.Numbers.{probability-number, reward-number}
use Rattle.rereading.proofs.Rows.{key-word, colon-alone, number_word, no_key, opened, done, row-text}
use Rattle.rereading.proofs.Cells.{blocks, row_done, table_done, rewards_done}

-- ---- a row of a table

module _ (m n w a s : ℕ) (cell : ℕ → ℕ) (cells : List ℕ) where
  -- " p" for each cell
  abbrev cell_text : ℕ → List ℕ
  cell_text x = 32 ∷ fixed 3 (cell x)

  no-colon : 1 ≤ w → cell 0 ≤ one → Refuses Ends (key colon) (parts_to w cell_text)
  no-colon some small =
      let e : suc (w - 1) ≡ w = omega arith in
      subst (λ (k : ℕ). Refuses Ends (key colon) (parts_to k cell_text)) e
      (refuses-parts (w - 1) cell_text (refuses-spaced (no_key (probability-number (cell 0) small) 58 (λ d l e. omega arith))) (λ x r e. refl))

  row-numbers : ((x : ℕ) → x < w → cell x ≤ one)
      → Through Ends (row probability (stated m n w a s) 0 w cells) (parts_to w cell_text) (filled (row_done m n w a s cell cells))
  row-numbers small =
      row-text probability (stated m n w a s) cells cell w cell_text
      (λ x l. past-space (number_word (probability-number (cell x) (small x l)) 0 one (omega arith) (small x l))) (λ x r e. refl)

  -- the bytes after a row's state begin with a space
  numbers-part : (r : List ℕ) → Any r → Ends ((parts_to w cell_text ++ newline) ++ r)
  numbers-part r h =
      subst⁻¹ Ends (append_assoc (parts_to w cell_text) newline r) (each-allows {E = Ends} w cell_text (λ x r e. refl) (newline ++ r) refl)

  pub row_read : {Y : Type 0} (G : Outcome (List ℕ) → Y) (f : Words → Y) (letter : ℕ) → Through Ends f (letter ∷ []) (λ ws. G (table m n w cells ws))
      → a < m → m ≤ 100 → s < n → n ≤ 100 → 1 ≤ w → ((x : ℕ) → x < w → cell x ≤ one)
      → Through Any f (row_text letter a s w cell) (λ ws. G (filled (row_done m n w a s cell cells) ws))
  unfolding row_text table_by
  row_read G f letter first la lm ls ln some small =
      and_then
      (opened cells G (λ a s ws. choose (key colon ws) (λ ws. entry_by forms m n w a s cells ws) (row probability (stated m n w a s) 0 w cells ws)) f
      letter m n a s first la lm ls ln)
      (after G (past-line (not_chosen (λ ws. entry_by forms m n w a s cells ws) (row probability (stated m n w a s) 0 w cells)
      (no-colon some (small 0 (omega arith))) (row-numbers small))))
      numbers-part

-- ---- a reward

starred-text : Through Ends starred (58 ∷ (32 ∷ (42 ∷ []))) (got 0)
unfolding keys plain
starred-text = and_then (then-on (λ _ ws. key star ws) colon-alone) (past-space (key-word star (a_word star refl (omega arith)))) (λ s e. tt)

reward-word : (r : ℤ) → nat_abs r ≤ max_reward → Through Ends reward_number (signed_fixed 2 r) (got r)
unfolding signed_number magnitude
reward-word r h =
    let w = signed_fixed 2 r in
    let n = reward-number r h in
    takes-word reward_number w (got r) n.is_word (λ at rest.
    ap (λ (x : Finding). answered at rest x then λ v rest. got (signed (negative w) v) rest)
    (ap (limited 0 max_reward) n.amount ∙ limit-in 0 max_reward (nat_abs r) (omega arith) h)
    ∙ ap (λ (x : ℤ). got x rest) n.sign)

module _ (m n a s : ℕ) (r : ℤ) (cells : List ℤ) where
  -- after the action and the state
  abbrev outcomes : ℕ → ℕ → Words → Outcome (List ℤ)
  outcomes a s ws = upon cells (starred ws) (λ _ ws. upon cells (starred ws) (λ _ ws. reward_by forms m n a s cells ws))

  outcomes-read : nat_abs r ≤ max_reward → Through Any (outcomes a s) (any_outcome ++ ((32 ∷ signed_fixed 2 r) ++ newline)) (filled (rewarded m n a s r cells))
  unfolding reward_by
  outcomes-read h =
      and_then (past-space (upon-on cells (λ _ ws. upon cells (starred ws) (λ _ ws. reward_by forms m n a s cells ws)) starred-text))
      (and_then (past-space (upon-on cells (λ _ ws. reward_by forms m n a s cells ws) starred-text))
      (past-space (past-line (upon-on cells (λ r ws. filled (rewarded m n a s r cells) ws) (reward-word r h)))) (λ s e. refl)) (λ s e. refl)

  pub reward-read : {Y : Type 0} (G : Outcome (List ℤ) → Y) (f : Words → Y) → Through Ends f (82 ∷ []) (λ ws. G (rewards m n cells ws))
      → a < m → m ≤ 100 → s < n → n ≤ 100 → nat_abs r ≤ max_reward
      → Through Any f (reward_text a s r) (λ ws. G (filled (rewarded m n a s r cells) ws))
  unfolding reward_text rewards_by
  reward-read G f first la lm ls ln h =
      and_then (opened cells G outcomes f 82 m n a s first la lm ls ln) (after G (outcomes-read h)) (λ s e. refl)

-- ---- one part after the other

-- n parts of c statements each, in a reading that may take so many statements
module _ {C X : Type 0} (reading : ℕ → C → Words → X) (c : ℕ) where
  pub parts-read : (n : ℕ) (one : ℕ → C → C) (t : ℕ → List ℕ)
      → ((i more : ℕ) (cells : C) → i < n → Through Any (reading (c + more) cells) (t i) (reading more (one i cells)))
      → (more : ℕ) (cells : C) → Through Any (reading (n * c + more) cells) (parts_to n t) (reading more (done n one cells))
  unfolding parts_to done
  parts-read zero one t h more cells =
      let e : more ≡ 0 * c + more = omega arith in
      subst (λ (k : ℕ). Through Any (reading k cells) [] (reading more cells)) e (stays (reading more cells))
  parts-read (suc n) one t h more cells =
      let e : n * c + (c + more) ≡ suc n * c + more = omega arith in
      subst (λ (k : ℕ). Through Any (reading k cells) (parts_to n t ++ t n) (reading more (one n (done n one cells)))) e
      (and_then (parts-read n one t (λ i more cells l. h i more cells (omega arith)) (c + more) cells) (h n more (done n one cells) (omega arith)) (λ s e. tt))

pub blocks-read : {C X : Type 0} (reading : ℕ → C → Words → X) (m n : ℕ) (one : ℕ → ℕ → C → C) (t : ℕ → ℕ → List ℕ)
    → ((a s more : ℕ) (cells : C) → a < m → s < n → Through Any (reading (suc more) cells) (t a s) (reading more (one a s cells)))
    → (more : ℕ) (cells : C) → Through Any (reading (m * n + more) cells) (parts_to m (λ a. parts_to n (t a))) (reading more (blocks m n one cells))
blocks-read reading m n one t h =
    parts-read reading n m (λ a. done n (one a)) (λ a. parts_to n (t a)) (λ a more cells l.
    let e : n * 1 + more ≡ n + more = omega arith in
    subst (λ (k : ℕ). Through Any (reading k cells) (parts_to n (t a)) (reading more (done n (one a) cells))) e
    (parts-read reading 1 n (one a) (t a) (λ s more cells k.
    let f : suc more ≡ 1 + more = omega arith in
    subst (λ (i : ℕ). Through Any (reading i cells) (t a s) (reading more (one a s cells))) f (h a s more cells l k)) more cells))

-- ---- statements

one-letter : (b : ℕ) → is_end (role_of (class_of b)) ≡ false → IsWord (b ∷ [])
unfolding plain
one-letter b h = a_word (b ∷ []) (ap (λ (t : Bool). cond t false true) h) (omega arith)

module _ (m n k : ℕ) where
  -- one of them, and as many as may be
  abbrev stating : Draft → Words → Outcome Draft
  stating = one_statement false m n k

  abbrev pub reading : ℕ → Draft → Words → Outcome Draft
  reading most = statements false most m n k

  module _ (d : Draft) where
    transition-begins : Through Ends (stating d) (84 ∷ [])
        (λ ws. within (λ cells. draft cells d.observation d.reward) (table m n n d.transition ws))
    unfolding one_statement_by
    transition-begins = chosen _ _ (key-word transition_key (one-letter 84 refl))

    other-begins : {K : Words → Outcome Draft} (b : ℕ) → IsWord (b ∷ []) → same transition_key (b ∷ []) ≡ false
        → Through Ends (observation_or_reward false m n k d) (b ∷ []) K → Through Ends (stating d) (b ∷ []) K
    unfolding one_statement_by key
    other-begins b p e h = not_chosen _ _ (no_word _ (b ∷ []) p (ap (λ (t : Bool). cond t (fits 0) unfit) e)) h

    observation-begins : Through Ends (stating d) (79 ∷ [])
        (λ ws. within (λ cells. draft d.transition cells d.reward) (table m n k d.observation ws))
    unfolding observation_or_reward_by same
    observation-begins = other-begins 79 (one-letter 79 refl) refl (chosen _ _ (key-word observation_key (one-letter 79 refl)))

    reward-begins : Through Ends (stating d) (82 ∷ [])
        (λ ws. within (λ cells. draft d.transition d.observation cells) (rewards m n d.reward ws))
    unfolding observation_or_reward_by reward_statement_by same key
    reward-begins =
        other-begins 82 (one-letter 82 refl) refl (not_chosen _ _ (no_word _ (82 ∷ []) (one-letter 82 refl) refl)
        (upon-on d _ (key-word reward_key (one-letter 82 refl))))

  -- a text that is one statement
  one_more : (d d' : Draft) (more b : ℕ) (t : List ℕ) → is_end (role_of (class_of b)) ≡ false → Through Any (stating d) (b ∷ t) (filled d')
      → Through Any (reading (suc more) d) (b ∷ t) (reading more d')
  unfolding statements_by
  one_more d d' more b t p h =
      not-ended b t (filled d) (λ ws. further (stating d ws) (λ d ws. reading more d ws)) p
      (after (λ (x : Outcome Draft). further x (λ d ws. reading more d ws)) h)

  row-statement : (d d' : Draft) (more letter a s w : ℕ) (cell : ℕ → ℕ) → is_end (role_of (class_of letter)) ≡ false
      → Through Any (stating d) (row_text letter a s w cell) (filled d')
      → Through Any (reading (suc more) d) (row_text letter a s w cell) (reading more d')
  unfolding row_text opening
  row-statement d d' more letter a s w cell p h = one_more d d' more letter _ p h

  reward-statement : (d d' : Draft) (more a s : ℕ) (r : ℤ) → Through Any (stating d) (reward_text a s r) (filled d')
      → Through Any (reading (suc more) d) (reward_text a s r) (reading more d')
  unfolding reward_text opening
  reward-statement d d' more a s r h = one_more d d' more 82 _ refl h

  module _ (lm : m ≤ 100) (ln : n ≤ 100) where
    -- a table that is a part of the draft, with a letter and rows of width w
    table-read : (put : List ℕ → Draft) (letter w : ℕ) (cell : ℕ → ℕ → ℕ → ℕ) → is_end (role_of (class_of letter)) ≡ false
        → ((cells : List ℕ) → Through Ends (stating (put cells)) (letter ∷ []) (λ ws. within put (table m n w cells ws)))
        → 1 ≤ w → ((a s x : ℕ) → a < m → s < n → x < w → cell a s x ≤ one) → (more : ℕ) (cells : List ℕ)
        → Through Any (reading (m * n + more) (put cells)) (table_text letter m n w cell) (reading more (put (table_done m n w cell cells)))
    unfolding table_text
    table-read put letter w cell p begins some small =
        blocks-read (λ more cells. reading more (put cells)) m n (λ a s. row_done m n w a s (cell a s)) (λ a s. row_text letter a s w (cell a s))
        (λ a s more cells la ls.
        row-statement (put cells) (put (row_done m n w a s (cell a s) cells)) more letter a s w (cell a s) p
        (row_read m n w a s (cell a s) cells (within put) (stating (put cells)) letter (begins cells) la lm ls ln some
        (λ x lx. small a s x la ls lx)))

    pub transitions-read : (o : List ℕ) (r : List ℤ) (cell : ℕ → ℕ → ℕ → ℕ) → 1 ≤ n → ((a s x : ℕ) → a < m → s < n → x < n → cell a s x ≤ one)
        → (more : ℕ) (cells : List ℕ) → Through Any (reading (m * n + more) (draft cells o r)) (table_text 84 m n n cell)
        (reading more (draft (table_done m n n cell cells) o r))
    transitions-read o r cell = table-read (λ cells. draft cells o r) 84 n cell refl (λ cells. transition-begins (draft cells o r))

    pub observations-read : (t : List ℕ) (r : List ℤ) (cell : ℕ → ℕ → ℕ → ℕ) → 1 ≤ k → ((a s x : ℕ) → a < m → s < n → x < k → cell a s x ≤ one)
        → (more : ℕ) (cells : List ℕ) → Through Any (reading (m * n + more) (draft t cells r)) (table_text 79 m n k cell)
        (reading more (draft t (table_done m n k cell cells) r))
    observations-read t r cell = table-read (λ cells. draft t cells r) 79 k cell refl (λ cells. observation-begins (draft t cells r))

    pub rewards-read : (t o : List ℕ) (reward : ℕ → ℕ → ℤ) → ((a s : ℕ) → a < m → s < n → nat_abs (reward s a) ≤ max_reward)
        → (more : ℕ) (cells : List ℤ) → Through Any (reading (m * n + more) (draft t o cells)) (rewards_text m n reward)
        (reading more (draft t o (rewards_done m n reward cells)))
    unfolding rewards_text
    rewards-read t o reward small =
        blocks-read (λ more cells. reading more (draft t o cells)) m n (λ a s. rewarded m n a s (reward s a)) (λ a s. reward_text a s (reward s a))
        (λ a s more cells la ls.
        reward-statement (draft t o cells) (draft t o (rewarded m n a s (reward s a) cells)) more a s (reward s a)
        (reward-read m n a s (reward s a) cells (within (draft t o)) (stating (draft t o cells)) (reward-begins (draft t o cells))
        la lm ls ln (small a s la ls)))

-- ---- there are more bytes than statements

parts-long : (n c : ℕ) (t : ℕ → List ℕ) → ((i : ℕ) → c ≤ length (t i)) → n * c ≤ length (parts_to n t)
unfolding parts_to
parts-long zero c t h = omega arith
parts-long (suc n) c t h = omega (arith, parts-long n c t h, h n, length-append (parts_to n t) (t n))

blocks-long : (m n : ℕ) (t : ℕ → ℕ → List ℕ) → ((a s : ℕ) → 1 ≤ length (t a s)) → m * n ≤ length (parts_to m (λ a. parts_to n (t a)))
blocks-long m n t h = parts-long m n (λ a. parts_to n (t a)) (λ a. omega (arith, parts-long n 1 (t a) (h a)))

pub table-long : (letter m n w : ℕ) (cell : ℕ → ℕ → ℕ → ℕ) → m * n ≤ length (table_text letter m n w cell)
unfolding table_text row_text opening
table-long letter m n w cell = blocks-long m n (λ a s. row_text letter a s w (cell a s)) (λ a s. omega arith)

pub rewards-long : (m n : ℕ) (reward : ℕ → ℕ → ℤ) → m * n ≤ length (rewards_text m n reward)
unfolding rewards_text reward_text opening
rewards-long m n reward = blocks-long m n (λ a s. reward_text a s (reward s a)) (λ a s. omega arith)
