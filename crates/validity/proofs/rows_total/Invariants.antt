use Rattle.validity.proofs.Prelude.{◌≡◌, ℕ, ◌+◌, ◌*◌, List, get_or, total_to, one}
use Rattle.integers.proofs.Kit.{eqb}
use Rattle.refusals.specs.Verdicts.{Verdict, Fine, unless, first_of}
use Rattle.validity.proofs.rows_total.Given as goal

-- the verdict on row r
abbrev pub row_verdict : List ℕ → ℕ → ℕ → ℕ → Verdict
row_verdict cells w number r = unless (eqb (total_to w (λ x. get_or cells (r * w + x) 0)) one) number r

abbrev pub invariant-loop-s : goal.invariant-loop-s
invariant-loop-s l = first_of l.s (λ t. row_verdict l.cells l.w l.number (l.a * l.n + t)) ≡ Fine

abbrev pub invariant-loop-a : goal.invariant-loop-a
invariant-loop-a l = first_of l.a (λ b. first_of l.n (λ t. row_verdict l.cells l.w l.number (b * l.n + t))) ≡ Fine
