-- One word at a time: its form (2), then its limit (3).
use Rattle.std.specs.Prelude.{ℕ, ◌-◌, Bool, true, false, ◌&&◌, cond, List, [], ◌∷◌, ℤ, eqb, leb, Option, Some, None}
use Rattle.words.specs.Words.{Words, word, end}
use Rattle.numerals.specs.declared.Form.{Form}
use Rattle.numerals.specs.Numeral.{count_form, amount_of, negative, unsigned, signed}

-- what reading gives: a value and the words that are left, or a refusal's number and place
pub data Answer (A : Type 0) : Type 0 where
  got : A → Words → Answer A
  refused : ℕ → ℕ → Answer A

infixl 1 ◌then◌
abbrev pub ◌then◌ : {A B : Type 0} → Answer A → (A → Words → Answer B) → Answer B
got a ws then k = k a ws
refused n p then k = refused n p

-- where the first can be read, what follows it; else the other
abbrev pub choose : {X : Type 0} → Answer ℕ → (Words → X) → X → X
choose (got v ws) k other = k ws
choose (refused n p) k other = other

-- the first where no word is left
abbrev pub unless_end : {X : Type 0} → Words → X → X → X
unless_end (end at) a b = a
unless_end (word at w rest) a b = b

-- ---- one word

-- a value, a form that does not fit, or a value outside its limit
pub data Finding : Type 0 where
  fits : ℕ → Finding
  unfit outside : Finding

abbrev pub answered : ℕ → Words → Finding → Answer ℕ
answered at rest (fits v) = got v rest
answered at rest unfit = refused 2 at
answered at rest outside = refused 3 at

-- the next word; a missing one is refused at the end of the file
abbrev pub one_word : (List ℕ → Finding) → Words → Answer ℕ
one_word find (word at w rest) = answered at rest (find w)
one_word find (end at) = refused 2 at

abbrev pub limited : ℕ → ℕ → Option ℕ → Finding
limited least most (Some v) = cond (leb least v && leb v most) (fits v) outside
limited least most None = unfit

-- a number of a form, from `least` to `most`
unfoldable pub number : Form → ℕ → ℕ → Words → Answer ℕ
number form least most = one_word (λ w. limited least most (amount_of form w))

-- the same after an optional minus, without its sign
unfoldable pub magnitude : Form → ℕ → Words → Answer ℕ
magnitude form most = one_word (λ w. limited 0 most (amount_of form (unsigned w)))

-- whether the next word has a minus
abbrev pub minus : Words → Bool
minus (word at w rest) = negative w
minus (end at) = false

-- a number with its sign
unfoldable pub signed_number : Form → ℕ → Words → Answer ℤ
signed_number form most ws = magnitude form most ws then λ v rest. got (signed (minus ws) v) rest

unfoldable pub same : List ℕ → List ℕ → Bool
same [] [] = true
same [] (b ∷ w) = false
same (a ∷ k) [] = false
same (a ∷ k) (b ∷ w) = eqb a b && same k w

-- a word that is given
unfoldable pub key : List ℕ → Words → Answer ℕ
key k = one_word (λ w. cond (same k w) (fits 0) unfit)

-- ---- a few words

-- ":" and "*"
abbrev pub colon : List ℕ
colon = 58 ∷ []

abbrev pub star : List ℕ
star = 42 ∷ []

-- two words that are given
unfoldable pub keys : List ℕ → List ℕ → Words → Answer ℕ
keys first second ws = key first ws then λ _ ws. key second ws

-- a name and a colon
abbrev pub key_named : List ℕ → Words → Answer ℕ
key_named name = keys name colon

-- a name, a colon and a number
unfoldable pub field : List ℕ → Form → ℕ → ℕ → Words → Answer ℕ
field name form least most ws = key_named name ws then λ _ ws. number form least most ws

-- one of n, by its number; n itself for a star, which stands for all of them
unfoldable pub index : ℕ → Words → Answer ℕ
index n ws = choose (key star ws) (λ ws. got n ws) (number count_form 0 (n - 1) ws)
