use Rattle.std.specs.Prelude.{ℕ, ◌≡◌, ◌<◌, ◌≤◌, ◌+◌, ◌-◌, length}
use Rattle.words.specs.Words.{words_in, between}
use Rattle.statements.specs.Statements.{draft, statements}
use Rattle.statements.proofs.statements_at.Given as goal

-- how far they are read: `fuel` more are enough
abbrev pub invariant-loop-w : goal.invariant-loop-w
invariant-loop-w l = record {
  inside : l.at ≤ length l.file;
  same : (fuel : ℕ) × ((length l.file < fuel + l.at)
      × (statements l.full fuel l.m l.n l.k (draft l.transition l.observation l.reward) (words_in between l.file l.at)
      ≡ statements l.full (length l.file + 1) l.m l.n l.k (draft l.initial.transition l.initial.observation l.initial.reward)
      (words_in between l.file l.from)));
}

abbrev pub decreases-loop-w : goal.decreases-loop-w
decreases-loop-w l = length l.file - l.at
