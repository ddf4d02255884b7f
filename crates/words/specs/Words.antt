-- The words of a file, each with the bytes before it.
--
-- Spaces part words, a colon is a word by itself, and a hash ends a word and opens a comment up to the next LF or the file's end. The file is
-- taken byte by byte; a byte stands between words, inside a word that began before it, or in a comment.
use Rattle.std.specs.Prelude.{ℕ, ◌+◌, ◌-◌, cond, List, [], ◌∷◌, length, take, drop, eqb, Option, Some, None}
use Rattle.words.specs.declared.Class.{Class}
use Rattle.words.specs.declared.Class.TheVariants.{Space, Colon, Hash, Digit, Point, Minus, Star, Rest}
use Rattle.words.specs.declared.Word.{Word}
use Rattle.words.specs.Class.{class_of}

-- what a byte does: it parts words, is a word by itself, opens a comment, or belongs to a word
pub data Role : Type 0 where
  parts alone opens belongs : Role

abbrev pub role_of : Class → Role
role_of Space = parts
role_of Colon = alone
role_of Hash = opens
role_of Digit = belongs
role_of Point = belongs
role_of Minus = belongs
role_of Star = belongs
role_of Rest = belongs

-- words: the bytes before a word, its own bytes, and what follows; at the end, the length of the file
pub data Words : Type 0 where
  word : ℕ → List ℕ → Words → Words
  end : ℕ → Words

abbrev pub where_belongs : Role → List ℕ → List ℕ
where_belongs belongs w = w
where_belongs parts w = []
where_belongs alone w = []
where_belongs opens w = []

-- the bytes up to the first that does not belong to a word
unfoldable pub word_run : List ℕ → List ℕ
word_run [] = []
word_run (b ∷ s) = where_belongs (role_of (class_of b)) (b ∷ word_run s)

pub data Mode : Type 0 where
  between inside comment : Mode

-- the words that begin at the byte b, with `at` bytes before it and the bytes s after it; `next` gives those that begin in s, by the mode there
abbrev pub step : Mode → Role → ℕ → ℕ → List ℕ → (Mode → Words) → Words
step between parts at b s next = next between
step between alone at b s next = word at (b ∷ []) (next between)
step between opens at b s next = next comment
step between belongs at b s next = word at (b ∷ word_run s) (next inside)
step inside parts at b s next = next between
step inside alone at b s next = word at (b ∷ []) (next between)
step inside opens at b s next = next comment
step inside belongs at b s next = next inside
step comment r at b s next = cond (eqb b 10) (next between) (next comment)

unfoldable pub words_of : Mode → ℕ → List ℕ → Words
words_of m at [] = end at
words_of m at (b ∷ s) = step m (role_of (class_of b)) at b s (λ m'. words_of m' (at + 1) s)

-- the words of the file s from the byte `at` on
unfoldable pub words_in : Mode → List ℕ → ℕ → Words
words_in m s at = words_of m at (drop at s)

-- the words from the one that the word function answers
abbrev pub told : List ℕ → Option Word → Words
told s (Some w) = word w.start (take (w.stop - w.start) (drop w.start s)) (words_in between s w.stop)
told s None = end (length s)
