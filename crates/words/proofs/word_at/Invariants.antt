use Rattle.std.proofs.Common.{length, ◌-◌, ◌≡◌, ◌≤◌, ℕ, List}
use Rattle.words.specs.Words.{words_in, between}
use Rattle.words.proofs.word_at.Given as goal

-- no word begins from `from` up to `at`
pub record Skipped (s : List ℕ) (from at : ℕ) : Type 0 where
  pub up : from ≤ at
  pub low : from ≤ length s → at ≤ length s
  pub same : from ≤ length s → words_in between s from ≡ words_in between s at

abbrev pub invariant-loop-at : goal.invariant-loop-at
invariant-loop-at l = Skipped l.s l.from l.at

-- proposed from the loop's first test
abbrev pub decreases-loop-at : goal.decreases-loop-at
decreases-loop-at l = length l.s - l.at
