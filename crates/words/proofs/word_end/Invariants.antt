use Rattle.std.proofs.Common.{length, ◌≤◌, ℕ}
use Rattle.words.specs.Steps.{Run}
use Rattle.words.proofs.word_end.Given as goal

abbrev pub invariant-loop-at : goal.invariant-loop-at
invariant-loop-at l = (l.at ≤ length l.s) × ((r : ℕ) → Run l.s l.at r → Run l.s l.from r)
