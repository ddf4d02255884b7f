use Rattle.std.proofs.Common.{ℕ, ◌≡◌, List}
use Rattle.integers.specs.Whole.{total_to}
use Rattle.refusals.specs.Verdicts.{Verdict, Fine, unless, first_of}
use Rattle.levels.specs.Storage.{point_in}
use Rattle.levels.specs.Judged.{total_holds}
use Rattle.weights.proofs.weights_hold.Given as goal

-- the verdict on point i
abbrev pub verdict : ℕ → List ℕ → ℕ → Verdict
verdict n cells i = unless (total_holds (total_to n (point_in n cells i))) 12 i

abbrev pub invariant-loop-i : goal.invariant-loop-i
invariant-loop-i l = first_of l.i (verdict l.n l.cells) ≡ Fine
