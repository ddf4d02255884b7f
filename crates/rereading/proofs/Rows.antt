-- Names, numbers, indices and rows of numbers as they are written, read again. Assumes nothing.
--
-- In order: names and numbers; an index; a row.
use Rattle.integers.proofs.Kit.{◌≡◌, ◌∙◌, refl, ap, subst, subst⁻¹, true, Bool, cond, ◌&&◌, List, [], ◌∷◌, ℕ, ◌≤◌, ◌<◌, ◌+◌, suc, zero, ◌-◌, arith}
use Rattle.integers.proofs.Kit.{add-one, eq-eqb}
use mathlib.Core.List.{◌++◌}
use Rattle.words.specs.Words.{Words, words_of}
use Rattle.numerals.specs.declared.Form.{Form}
use Rattle.numerals.specs.Numeral.{count_form, amount_of}
use Rattle.grammar.specs.Grammar.{Answer, got, ◌then◌, fits, unfit, limited, number, same, key, keys, key_named, colon, field, index}
use Rattle.grammar.proofs.Laws.{limit-in}
use Rattle.entries.specs.Entries.{Outcome, filled, upon, indexed, row}
use Rattle.written.specs.Text.{parts_to, whole, line, opening}
use Rattle.rereading.proofs.Spelling.{Ends, Any, Through, and_then, past-space, past-line, after, each_part, IsWord, one-word, Refuses, no_word}
use Rattle.rereading.proofs.Spelling.{then-on, upon-on, not_chosen}
use Rattle.rereading.proofs.Numbers.{Number, whole-number}

-- ---- names and numbers

same_word : (w : List ℕ) → same w w ≡ true
unfolding same
same_word [] = refl
same_word (b ∷ w) = ap (λ (t : Bool). t && same w w) (eq-eqb b b refl) ∙ same_word w

pub key-word : (k : List ℕ) → IsWord k → Through Ends (key k) k (got 0)
unfolding key
key-word k p = one-word (λ w. cond (same k w) (fits 0) unfit) k 0 p (ap (λ (t : Bool). cond t (fits 0) unfit) (same_word k))

pub colon-alone : Through Any (key colon) (58 ∷ []) (got 0)
unfolding key same words_of
colon-alone = record { onto = λ at s e. record { to = at + 1; is = refl } }

-- a name, a colon and what follows them
pub named-on : {A : Type 0} {E : List ℕ → Type 0} {k : Words → Answer A} {t : List ℕ} (name : List ℕ) (h : ℕ → Words → Answer A) → IsWord name
    → Through E (h 0) t k → Through E (λ ws. key_named name ws then h) (name ++ (58 ∷ t)) k
unfolding keys
named-on {A} name h p a =
    and_then (after (λ (x : Answer ℕ). (x then λ _ ws. key colon ws) then h) (key-word name p)) (and_then (then-on h colon-alone) a (λ s e. tt)) (λ s e. refl)

module _ {form : Form} {w : List ℕ} {v : ℕ} (n : Number form w v) where
  pub number_word : (least most : ℕ) → least ≤ v → v ≤ most → Through Ends (number form least most) w (got v)
  unfolding number
  number_word least most h k =
      one-word (λ w. limited least most (amount_of form w)) w v n.is_word
      (ap (limited least most) n.amount ∙ limit-in least most v h k)

  -- it is no word of another byte
  pub no_key : (k : ℕ) → ((d : ℕ) → d ≤ 9 → k ≡ 48 + d → ⊥) → Refuses Ends (key (k ∷ [])) w
  unfolding key
  no_key k h = no_word (λ w. cond (same (k ∷ []) w) (fits 0) unfit) w n.is_word (ap (λ (t : Bool). cond t (fits 0) unfit) (n.other k h))

  -- a line with it
  pub field-line : {E : List ℕ → Type 0} (name : List ℕ) (least most : ℕ) → IsWord name → least ≤ v → v ≤ most
      → Through E (field name form least most) (line name w) (got v)
  unfolding field line
  field-line name least most p h k = named-on name (λ _ ws. number form least most ws) p (past-space (past-line (number_word least most h k)))

-- ---- an index

pub index_word : (n a : ℕ) → a < n → n ≤ 100 → Through Ends (index n) (whole a) (got a)
unfolding index
index_word n a h k =
    not_chosen (λ ws. got n ws) (number count_form 0 (n - 1)) (no_key (whole-number a (omega arith)) 42 (λ d l e. omega arith))
    (number_word (whole-number a (omega arith)) 0 (n - 1) (omega arith) (omega arith))

pub indexed-text : (n a : ℕ) → a < n → n ≤ 100 → Through Ends (indexed n) (58 ∷ (32 ∷ whole a)) (got a)
unfolding indexed
indexed-text n a h k = and_then (then-on (λ _ ws. index n ws) colon-alone) (past-space (index_word n a h k)) (λ s e. tt)

-- a statement's key, action and state, then what follows them
pub opened : {C Y : Type 0} (cells : C) (G : Outcome C → Y) (h : ℕ → ℕ → Words → Outcome C) (f : Words → Y) (letter m n a s : ℕ)
    → Through Ends f (letter ∷ []) (λ ws. G (upon cells (indexed m ws) (λ a ws. upon cells (indexed n ws) (λ s ws. h a s ws))))
    → a < m → m ≤ 100 → s < n → n ≤ 100 → Through Ends f (opening letter a s) (λ ws. G (h a s ws))
unfolding opening
opened cells G h f letter m n a s first la lm ls ln =
    and_then first
    (and_then (after G (upon-on cells (λ a ws. upon cells (indexed n ws) (λ s ws. h a s ws)) (indexed-text m a la lm)))
    (past-space (after G (upon-on cells (h a) (indexed-text n s ls ln)))) (λ s e. refl)) (λ s e. refl)

-- ---- a row

-- f 0, f 1, .., f (n - 1), each done to what the one before left
unfoldable pub done : {C : Type 0} → ℕ → (ℕ → C → C) → C → C
done zero f c = c
done (suc n) f c = f n (done n f c)

module _ (one_number : Words → Answer ℕ) (put : ℕ → ℕ → List ℕ → List ℕ) (cells : List ℕ) (v : ℕ → ℕ) (w : ℕ) (t : ℕ → List ℕ) where
  -- the cells after x numbers, and the reading from there on
  abbrev after-numbers : ℕ → List ℕ
  after-numbers x = done x (λ x. put x (v x)) cells

  abbrev row_from : ℕ → Words → Outcome (List ℕ)
  row_from x = row one_number put x (w - x) (after-numbers x)

  one_more : (x : ℕ) → x < w → Through Ends one_number (t x) (got (v x)) → Through Ends (row_from x) (t x) (row_from (suc x))
  unfolding row done
  one_more x l h =
      let e : w - x ≡ suc (w - suc x) = omega arith in
      let c = after-numbers x in
      subst⁻¹ (λ (k : ℕ). Through Ends (row one_number put x k c) (t x) (row_from (suc x))) e
      (subst (λ (j : ℕ). Through Ends (row one_number put x (suc (w - suc x)) c) (t x) (row one_number put j (w - suc x) (put x (v x) c))) (add-one x)
      (upon-on c (λ p ws. row one_number put (x + 1) (w - suc x) (put x p c) ws) h))

  pub row-text : ((x : ℕ) → x < w → Through Ends one_number (t x) (got (v x))) → ((x : ℕ) (s : List ℕ) → Ends s → Ends (t x ++ s))
      → Through Ends (row one_number put 0 w cells) (parts_to w t) (filled (after-numbers w))
  unfolding row done
  row-text h e =
      let none : w - 0 ≡ w = omega arith in
      let all : w - w ≡ 0 = omega arith in
      subst (λ (k : ℕ). Through Ends (row one_number put 0 k cells) (parts_to w t) (filled (after-numbers w))) none
      (subst (λ (k : ℕ). Through Ends (row_from 0) (parts_to w t) (row one_number put w k (after-numbers w))) all
      (each_part w row_from t (λ x l. one_more x l (h x l)) e))
