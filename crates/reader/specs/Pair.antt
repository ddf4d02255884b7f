-- Two words after each other.
use Rattle.std.specs.Prelude.{ℕ, List, Option, Some, None}
use Rattle.words.specs.declared.Word.{Word}
use Rattle.words.specs.Steps.{Next}
use Rattle.reader.specs.declared.Pair.{Pair}

-- where reading goes on after a word that was looked for from `at` on
abbrev pub past_word : Option Word → ℕ → ℕ
past_word (Some w) at = w.stop
past_word None at = at

-- the next word from `at`, and the next one from where that leaves off
pub record Paired (s : List ℕ) (at : ℕ) (p : Pair) : Type 0 where
  pub first : Next s at p.first
  pub second : Next s (past_word p.first at) p.second
