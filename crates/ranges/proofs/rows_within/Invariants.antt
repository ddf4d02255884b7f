use Rattle.std.proofs.Common.{◌≡◌, ◌*◌, get_or, pos, ℕ, ◌+◌, ℤ}
use Rattle.integers.proofs.Kit.{List, leb, nat_abs}
use Rattle.refusals.specs.Verdicts.{Verdict, Fine, unless, first_of}
use Rattle.ranges.proofs.rows_within.Given as goal

-- the verdict on the number at x of row i
abbrev pub verdict : List ℤ → ℕ → ℕ → ℕ → ℕ → ℕ → Verdict
verdict cells w limit number i x = unless (leb (nat_abs (get_or cells (i * w + x) (pos 0))) limit) number i

abbrev pub invariant-loop-x : goal.invariant-loop-x
invariant-loop-x l = (l.found ≡ Fine) × (first_of l.x (verdict l.cells l.w l.limit l.number l.i) ≡ Fine)

abbrev pub invariant-rows : goal.invariant-rows
invariant-rows l = (l.found ≡ Fine) × (first_of l.i (λ j. first_of l.w (verdict l.cells l.w l.limit l.number j)) ≡ Fine)
