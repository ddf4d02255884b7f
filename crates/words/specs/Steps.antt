-- What the code's steps say of the words of a file.
use Rattle.std.specs.Prelude.{ℕ, ◌-◌, ◌≤◌, ◌<◌, Bool, true, false, ◌≡◌, List, length, take, drop, Option, Some, None}
use Rattle.words.specs.declared.Word.{Word}
use Rattle.words.specs.Words.{Role, parts, alone, opens, belongs, word_run, words_in, between, inside, told}

-- a byte belongs to no word that began before it
abbrev pub is_end : Role → Bool
is_end parts = true
is_end alone = true
is_end opens = true
is_end belongs = false

-- the bytes from a up to r are the rest of a word that began before a
pub record Run (s : List ℕ) (a r : ℕ) : Type 0 where
  pub up : a ≤ r
  pub low : r ≤ length s
  pub same : words_in inside s a ≡ words_in between s r
  pub bytes : word_run (drop a s) ≡ take (r - a) (drop a s)

abbrev pub WordInside : List ℕ → ℕ → Option Word → Type 0
WordInside s a (Some w) = (a ≤ w.start) × ((w.start < w.stop) × (w.stop ≤ length s))
WordInside s a None = Unit

-- w is the next word from a, and lies between a and the end of the file
pub record Worded (s : List ℕ) (a : ℕ) (w : Option Word) : Type 0 where
  pub is : words_in between s a ≡ told s w
  pub lies : WordInside s a w

-- the next word from any offset; none from past the end
pub record Next (s : List ℕ) (a : ℕ) (w : Option Word) : Type 0 where
  pub within : a ≤ length s → Worded s a w
  pub past : length s < a → w ≡ None
