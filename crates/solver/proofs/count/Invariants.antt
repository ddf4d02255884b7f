use Rattle.std.proofs.Common.{ℕ, ◌≤◌, ◌-◌, length}
use Rattle.std.specs.Prelude.{Result}
use Rattle.refusals.specs.declared.Refusal.{Refusal}
use Rattle.solver.specs.Steps.{Counted}
use Rattle.solver.proofs.count.Given as goal

-- as those that are left are counted, all are
abbrev pub invariant-loop-one : goal.invariant-loop-one
invariant-loop-one g l = record {
  inside : l.at ≤ length l.file;
  few : l.v ≤ l.at;
  whole : (r : Result ℕ Refusal) → Counted l.file (goal.F-post g l.one) l.v l.at r → Counted l.file (goal.F-post g l.one) 0 0 r;
}

abbrev pub decreases-loop-one : goal.decreases-loop-one
decreases-loop-one g l = length l.file - l.at
