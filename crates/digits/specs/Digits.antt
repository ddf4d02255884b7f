-- Numbers and lines as bytes.
--
--   parts_to n f            f 0, f 1, .., f (n - 1), one after the other
--   whole v                a number below 10,000
--   fixed places v         v units of which 10 ^ places make 1: 0.900, 12.50
--   signed_fixed places v   with a minus for a number below 0
--   line name w            "name: w" and a new line
--   opening key a s        "K: a : s"
--   text_over at text xs    a text over what was there, from a place on
use Rattle.std.specs.Prelude.{ℕ, zero, suc, ◌+◌, ◌/◌, ◌%◌, ◌^◌, cond, List, [], ◌∷◌, ◌++◌, ltb, length, take, drop, ℤ, pos, negsuc}

-- ---- parts one after the other

-- f 0, f 1, .., f (n - 1)
unfoldable pub parts_to : ℕ → (ℕ → List ℕ) → List ℕ
parts_to zero f = []
parts_to (suc n) f = parts_to n f ++ f n

-- ---- numbers

-- so many decimal digits of v, the last ones
unfoldable pub last_digits : ℕ → ℕ → List ℕ
last_digits zero v = []
last_digits (suc c) v = last_digits c (v / 10) ++ ((48 + v % 10) ∷ [])

-- how many digits a number below 10,000 has
abbrev pub digits_for : ℕ → ℕ
digits_for v = cond (ltb v 10) 1 (cond (ltb v 100) 2 (cond (ltb v 1_000) 3 4))

-- a whole number
unfoldable pub whole : ℕ → List ℕ
whole v = last_digits (digits_for v) v

-- v units of which 10 ^ places make 1
unfoldable pub fixed : ℕ → ℕ → List ℕ
fixed places v = whole (v / 10 ^ places) ++ (46 ∷ last_digits places (v % 10 ^ places))

-- with a minus for a number below 0
unfoldable pub signed_fixed : ℕ → ℤ → List ℕ
signed_fixed places (pos v) = fixed places v
signed_fixed places (negsuc v) = 45 ∷ fixed places (suc v)

-- ---- lines

abbrev pub newline : List ℕ
newline = 10 ∷ []

-- " " before a word
abbrev pub spaced : List ℕ → List ℕ
spaced w = 32 ∷ w

-- "name: word" and a new line
unfoldable pub line : List ℕ → List ℕ → List ℕ
line name w = name ++ (58 ∷ spaced w ++ newline)

-- "K: a : s", of a statement with the key K
unfoldable pub opening : ℕ → ℕ → ℕ → List ℕ
opening key a s = key ∷ 58 ∷ spaced (whole a) ++ (32 ∷ 58 ∷ spaced (whole s))

-- ---- written

-- a text over what was there, from a place on: the rest stays
unfoldable pub text_over : ℕ → List ℕ → List ℕ → List ℕ
text_over at text xs = take at xs ++ text ++ drop (at + length text) xs
