use Rattle.std.proofs.Common.{length, ◌≡◌, ◌≤◌}
use Rattle.words.specs.Words.{words_in, comment}
use Rattle.words.proofs.line_end.Given as goal

abbrev pub invariant-loop-at : goal.invariant-loop-at
invariant-loop-at l = (l.from ≤ l.at) × ((l.at ≤ length l.s) × (words_in comment l.s l.from ≡ words_in comment l.s l.at))
