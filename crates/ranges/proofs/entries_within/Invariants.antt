use Rattle.std.proofs.Common.{◌≡◌, ℕ, ℤ}
use Rattle.masks.specs.Masks.{masked_in}
use Rattle.integers.proofs.Kit.{List, nat_abs, leb}
use Rattle.refusals.specs.Verdicts.{Verdict, Fine, unless, first_of}
use Rattle.ranges.proofs.entries_within.Given as goal

-- the verdict on the entry of vector v at state s
abbrev pub verdict : List ℕ → List ℤ → ℕ → ℕ → ℕ → ℕ → Verdict
verdict masks entries n limit v s = unless (leb (nat_abs (masked_in n masks entries v s)) limit) 11 v

abbrev pub invariant-loop-s : goal.invariant-loop-s
invariant-loop-s l = (l.found ≡ Fine) × (first_of l.s (verdict l.masks l.entries l.n l.limit l.v) ≡ Fine)

abbrev pub invariant-vectors : goal.invariant-vectors
invariant-vectors l = (l.found ≡ Fine) × (first_of l.v (λ j. first_of l.n (verdict l.masks l.entries l.n l.limit j)) ≡ Fine)
