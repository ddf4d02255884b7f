use Rattle.std.proofs.Common.{◌≡◌, List, ℕ, ℤ}
use Rattle.integers.specs.Cells.{laid}
use Rattle.pricing.specs.Steps.{lowered_in}
use Rattle.integers.proofs.Kit.{◌/◌, ◌%◌}
use Rattle.pricing.proofs.lower_entries.Given as goal

-- the entry at place i
abbrev pub entry : ℕ → ℕ → ℕ → List ℕ → List ℤ → ℕ → ℤ
entry n limit k masks entries i = lowered_in n limit k masks entries (i / n) (i % n)

abbrev pub invariant-loop-i : goal.invariant-loop-i
invariant-loop-i l = l.entries ≡ laid l.i (entry l.n l.limit l.k l.masks l.initial.entries) l.initial.entries
