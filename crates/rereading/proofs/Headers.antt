-- Headers and start numbers of a written file, read again. Assumes nothing.
--
-- In order: headers; start numbers.
use Rattle.integers.proofs.Kit.{◌≡◌, ◌∙◌, refl, ap, List, ◌∷◌, ℕ, ◌≤◌, ◌<◌, arith, get_or, replicate, length-replicate}
use Rattle.tables.specs.declared.Counts.{Counts}
use Rattle.tables.specs.Limits.{max_states, max_actions, max_observations, one, start_total}
use Rattle.tables.specs.Storage.{cell_place}
use Rattle.words.specs.Words.{Words}
use Rattle.drafts.specs.Drafts.{stated}
use Rattle.numerals.specs.Numeral.{count_form}
use Rattle.grammar.specs.Grammar.{Answer, got, ◌then◌, key, key_named, field}
use Rattle.entries.specs.Entries.{wholly, start_number, row}
use Rattle.headers.specs.Headers.{discount_name, values_name, reward_word, states_name, actions_name, observations_name, start_name}
use Rattle.headers.specs.Headers.{header, header_by, start_numbers, start_by}
use Rattle.written.specs.Text.{whole, fixed, line, header_text, start_text}
use Rattle.rereading.proofs.Spelling.{Any, plain, Through, and_then, past-space, past-line, after, IsWord, a_word, then-on}
use Rattle.rereading.proofs.Numbers.{whole-number, probability-number, start-number}
use Rattle.rereading.proofs.Rows.{key-word, number_word, named-on, field-line, row-text}
use Rattle.rereading.proofs.Cells.{row_done, row-set}

-- ---- headers

-- counts and discount within their limits
pub record CountsWithin (c : Counts) : Type 0 where
  pub states : (0 < c.states) × (c.states ≤ max_states)
  pub actions : (0 < c.actions) × (c.actions ≤ max_actions)
  pub observations : (0 < c.observations) × (c.observations ≤ max_observations)
  pub discount : c.discount ≤ one

-- a line of a name and a word
word_line : {B : Type 0} {E : List ℕ → Type 0} (name w : List ℕ) (h : ℕ → Words → Answer B) → IsWord name → IsWord w
    → Through E (λ ws. key_named name ws then λ _ ws. key w ws then h) (line name w) (h 0)
unfolding line
word_line name w h p q = named-on name (λ _ ws. key w ws then h) p (past-space (past-line (then-on h (key-word w q))))

pub headers-read : (c : Counts) → CountsWithin c → Through Any header (header_text c) (got c)
unfolding header_by header_text plain
headers-read c h =
    and_then {D = Any} (then-on _ (field-line (probability-number c.discount h.discount) discount_name 0 one (a_word discount_name refl (omega arith))
    (omega arith) h.discount))
    (and_then {D = Any} (word_line values_name reward_word _ (a_word values_name refl (omega arith)) (a_word reward_word refl (omega arith)))
    (and_then {D = Any} (count states_name (a_word states_name refl (omega arith)) c.states max_states _ h.states (omega arith))
    (and_then {D = Any} (count actions_name (a_word actions_name refl (omega arith)) c.actions max_actions _ h.actions (omega arith))
    (count observations_name (a_word observations_name refl (omega arith)) c.observations max_observations _ h.observations (omega arith))
    (λ s e. tt)) (λ s e. tt)) (λ s e. tt)) (λ s e. tt)
  where
    count : {A : Type 0} (name : List ℕ) → IsWord name → (v most : ℕ) (k : ℕ → Words → Answer A) → (0 < v) × (v ≤ most) → most < 100
        → Through Any (λ ws. field name count_form 1 most ws then k) (line name (whole v)) (k v)
    count name p v most k b l = then-on k (field-line (whole-number v (omega (arith, b))) name 1 most p (omega (arith, b)) b.1)

-- ---- start numbers

abbrev pub start_done : ℕ → List ℕ → List ℕ
start_done n start = row_done 1 1 n 0 0 (λ s. get_or start s 0) (replicate max_states 0)

pub start-read : (n : ℕ) (start : List ℕ) → ((s : ℕ) → s < n → get_or start s 0 ≤ start_total)
    → Through Any (start_numbers n) (start_text n start) (got (start_done n start))
unfolding start_by start_text plain
start-read n start small =
    named-on start_name (λ _ ws. wholly (row start_number (stated 1 1 n 0 0) 0 n (replicate max_states 0) ws)) (a_word start_name refl (omega arith))
    (after wholly (past-line (row-text start_number (stated 1 1 n 0 0) (replicate max_states 0) (λ s. get_or start s 0) n (λ s. 32 ∷ fixed 2 (get_or start s 0))
    (λ s l. past-space (number_word (start-number (get_or start s 0) (small s l)) 0 start_total (omega arith) (small s l))) (λ s r e. refl))))

pub start-same : (n : ℕ) (start : List ℕ) → n ≤ max_states → (s : ℕ) → s < n → get_or (start_done n start) s 0 ≡ get_or start s 0
start-same n start few s l =
    let e : s ≡ cell_place 1 n 0 0 s = omega arith in
    ap (λ (i : ℕ). get_or (start_done n start) i 0) e
    ∙ row-set 1 1 n (λ a r x. get_or start x 0) 0 0 s (omega arith) (omega arith) l (replicate max_states 0)
    (omega (arith, length-replicate {A = ℕ} max_states 0))
