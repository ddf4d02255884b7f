use Rattle.expected.proofs.Prelude.{◌≡◌, ℕ}
use Rattle.integers.proofs.Kit.{List, ℤ, ◌/◌, ◌%◌}
use Rattle.integers.specs.Cells.{laid}
use Rattle.tables.specs.declared.Counts.{Counts}
use Rattle.expected.specs.Expected.{expected_ticks}
use Rattle.expected.proofs.lay.Given as goal

-- the reward at a place
abbrev pub made : Counts → List ℕ → List ℕ → List ℤ → ℕ → ℤ
made c T O cells i = expected_ticks c T O cells (i % c.states) (i / c.states)

abbrev pub invariant-loop-i : goal.invariant-loop-i
invariant-loop-i l = l.reward ≡ laid l.i (made l.c l.transition l.observation l.outcomes) l.initial.reward
