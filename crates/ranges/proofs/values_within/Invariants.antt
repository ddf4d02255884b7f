use Rattle.std.proofs.Common.{◌≡◌, get_or, pos, ℕ, ℤ}
use Rattle.levels.specs.Storage.{point_in}
use Rattle.levels.specs.Judged.{value_holds}
use Rattle.integers.proofs.Kit.{List}
use Rattle.integers.specs.Whole.{total_to}
use Rattle.refusals.specs.Verdicts.{Verdict, Fine, unless, first_of}
use Rattle.ranges.proofs.values_within.Given as goal

-- the verdict on point i
abbrev pub verdict : ℕ → List ℕ → List ℤ → ℕ → ℕ → Verdict
verdict n weights values limit i = unless (value_holds (total_to n (point_in n weights i)) limit (get_or values i (pos 0))) 11 i

abbrev pub invariant-loop-i : goal.invariant-loop-i
invariant-loop-i l = first_of l.i (verdict l.n l.weights l.values l.limit) ≡ Fine
