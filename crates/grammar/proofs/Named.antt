-- Words that are refused: each by 2 or 3, at a place in the file. Assumes nothing.
--
--   UpTo    words: at most so many, none past the end of a file of so many bytes; those of a file: words_up
--   Named   an answer over such words: one-named, then-named, choose-named, and one for each word function
use Prim.Native.Nat.{ℕ, zero, suc, ◌+◌, ◌≤◌}
use mathlib.Core.Bool.{Bool, true, false, cond}
use mathlib.Core.List.{List, [], ◌∷◌}
use native.Mathlib.Omega.{arith}
use lib.Dec.{eqb}
use lib.ListN.{length}
use Rattle.words.specs.Class.{class_of}
use Rattle.words.specs.Words.{Role, parts, alone, opens, belongs, role_of, Words, word, end, Mode, between, inside, comment, step, words_of}
use Rattle.numerals.specs.declared.Form.{Form}
use Rattle.numerals.specs.Numeral.{count_form}
use Rattle.grammar.specs.Grammar.{Answer, got, refused, ◌then◌, choose, Finding, fits, unfit, outside, answered, one_word, number, key, keys, colon}
use Rattle.grammar.specs.Grammar.{star, key_named, field, index, magnitude, signed_number}

-- ---- words: at most c of them, none past the end of a file of so many bytes

abbrev pub UpTo : ℕ → ℕ → Words → Type 0
UpTo size c (end at) = at ≤ size
UpTo size zero (word at w rest) = ⊥
UpTo size (suc c) (word at w rest) = (at ≤ size) × UpTo size c rest

pub up_more : (size c : ℕ) (ws : Words) → UpTo size c ws → UpTo size (suc c) ws
up_more size c (end at) h = h
up_more size zero (word at w rest) h = absurd h
up_more size (suc c) (word at w rest) (h, k) = (h, up_more size c rest k)

-- each byte begins one word at most
step-up : (size c at b : ℕ) (s : List ℕ) (m : Mode) (r : Role) (next : Mode → Words) → at ≤ size → ((m : Mode) → UpTo size c (next m))
    → UpTo size (suc c) (step m r at b s next)
step-up size c at b s between parts next h k = up_more size c (next between) (k between)
step-up size c at b s between alone next h k = (h, k between)
step-up size c at b s between opens next h k = up_more size c (next comment) (k comment)
step-up size c at b s between belongs next h k = (h, k inside)
step-up size c at b s inside parts next h k = up_more size c (next between) (k between)
step-up size c at b s inside alone next h k = (h, k between)
step-up size c at b s inside opens next h k = up_more size c (next comment) (k comment)
step-up size c at b s inside belongs next h k = up_more size c (next inside) (k inside)
step-up size c at b s comment r next h k = either (eqb b 10)
  where
    either : (t : Bool) → UpTo size (suc c) (cond t (next between) (next comment))
    either true = up_more size c (next between) (k between)
    either false = up_more size c (next comment) (k comment)

pub words_up : (m : Mode) (size at : ℕ) (s : List ℕ) → at + length s ≤ size → UpTo size (length s) (words_of m at s)
unfolding words_of
words_up m size at [] h = omega arith
words_up m size at (b ∷ s) h =
    step-up size (length s) at b s m (role_of (class_of b)) (λ m'. words_of m' (at + 1) s) (omega arith) (λ m'. words_up m' size (at + 1) s (omega arith))

-- ---- reading: a refused word gets 2 or 3 at a place in the file

pub record Word-refused (size n p : ℕ) : Type 0 where
  pub low : 2 ≤ n
  pub high : n ≤ 3
  pub place : p ≤ size

module _ (size : ℕ) where
  abbrev pub Named : {A : Type 0} → ℕ → Answer A → Type 0
  Named c (got x ws) = UpTo size c ws
  Named c (refused n p) = Word-refused size n p

  answered-named : (c at : ℕ) (rest : Words) (f : Finding) → at ≤ size → UpTo size c rest → Named c (answered at rest f)
  answered-named c at rest (fits v) h k = k
  answered-named c at rest unfit h k = record { low = omega arith; high = omega arith; place = h }
  answered-named c at rest outside h k = record { low = omega arith; high = omega arith; place = h }

  pub one-named : (c : ℕ) (find : List ℕ → Finding) (ws : Words) → UpTo size (suc c) ws → Named c (one_word find ws)
  one-named c find (word at w rest) (h, k) = answered-named c at rest (find w) h k
  one-named c find (end at) h = record { low = omega arith; high = omega arith; place = h }

  pub then-named : {A B : Type 0} (c d : ℕ) (a : Answer A) (k : A → Words → Answer B) → Named c a → ((x : A) (ws : Words) → UpTo size c ws → Named d (k x ws))
      → Named d (a then k)
  then-named c d (got x ws) k h g = g x ws h
  then-named c d (refused n p) k h g = h

  pub choose-named : {B : Type 0} (c d : ℕ) (a : Answer ℕ) (k : Words → Answer B) (o : Answer B) → Named c a → ((ws : Words) → UpTo size c ws → Named d (k ws))
      → Named d o
      → Named d (choose a k o)
  choose-named c d (got v ws) k o h g l = g ws h
  choose-named c d (refused n p) k o h g l = l

  -- ---- a word

  pub key-named : (c : ℕ) (k : List ℕ) (ws : Words) → UpTo size (suc c) ws → Named c (key k ws)
  unfolding key
  key-named c k ws h = one-named c _ ws h

  pub number-takes : (c : ℕ) (form : Form) (least most : ℕ) (ws : Words) → UpTo size (suc c) ws → Named c (number form least most ws)
  unfolding number
  number-takes c form least most ws h = one-named c _ ws h

  pub number-named : (c : ℕ) (form : Form) (least most : ℕ) (ws : Words) → UpTo size c ws → Named c (number form least most ws)
  number-named c form least most ws h = number-takes c form least most ws (up_more size c ws h)

  module _ (c : ℕ) where
    pub keyed : (k : List ℕ) (ws : Words) → UpTo size c ws → Named c (key k ws)
    keyed k ws h = key-named c k ws (up_more size c ws h)

    pub keys-named : (first second : List ℕ) (ws : Words) → UpTo size c ws → Named c (keys first second ws)
    unfolding keys
    keys-named first second ws h = then-named c c (key first ws) (λ _ ws. key second ws) (keyed first ws h) (λ _ ws. keyed second ws)

    pub field-named : (name : List ℕ) (form : Form) (least most : ℕ) (ws : Words) → UpTo size c ws → Named c (field name form least most ws)
    unfolding field
    field-named name form least most ws h =
        then-named c c (key_named name ws) (λ _ ws. number form least most ws) (keys-named name colon ws h) (λ _ ws. number-named c form least most ws)

    pub index-named : (n : ℕ) (ws : Words) → UpTo size c ws → Named c (index n ws)
    unfolding index
    index-named n ws h = choose-named c c (key star ws) _ _ (keyed star ws h) (λ ws k. k) (number-named c count_form 0 _ ws h)

    pub signed-named : (form : Form) (most : ℕ) (ws : Words) → UpTo size c ws → Named c (signed_number form most ws)
    unfolding signed_number magnitude
    signed-named form most ws h = then-named c c (magnitude form most ws) _ (one-named c _ ws (up_more size c ws h)) (λ v rest k. k)
