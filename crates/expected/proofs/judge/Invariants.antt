use Rattle.expected.proofs.Prelude.{◌≡◌, ℕ}
use Rattle.integers.proofs.Kit.{List, ℤ}
use Rattle.tables.specs.declared.Counts.{Counts}
use Rattle.refusals.specs.Verdicts.{Verdict, Fine, unless, first_of}
use Rattle.tables.specs.Storage.{row_place}
use Rattle.expected.specs.Expected.{expected_millionths, is_whole}
use Rattle.expected.proofs.judge.Given as goal

-- the verdict on an action and a state
abbrev pub here : Counts → List ℕ → List ℕ → List ℤ → ℕ → ℕ → Verdict
here c T O cells a s = unless (is_whole (expected_millionths c T O cells s a)) 26 (row_place c.states a s)

abbrev pub invariant-loop-s : goal.invariant-loop-s
invariant-loop-s l = first_of l.s (here l.c l.transition l.observation l.outcomes l.a) ≡ Fine

abbrev pub invariant-loop-a : goal.invariant-loop-a
invariant-loop-a l = first_of l.a (λ b. first_of l.c.states (here l.c l.transition l.observation l.outcomes b)) ≡ Fine
