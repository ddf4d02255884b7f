use Rattle.integers.proofs.Kit.{ℕ, ℤ, ◌+◌, ◌≡◌, get_or, pos}
use Rattle.integers.specs.Whole.{◌·◌, sum_to}
use Rattle.tables.specs.Storage.{weight_in}
use Rattle.intervals.specs.Steps.{weight_for}
use Rattle.intervals.proofs.sure_product.Given as goal

abbrev pub invariant-loop-s : goal.invariant-loop-s
invariant-loop-s l =
    let e : ℕ → ℤ = λ i. get_or l.cells (l.at + i) (pos 0) in
    l.sum ≡ sum_to l.s (λ i. weight_for (weight_in l.over i) (weight_in l.under i) (e i) · e i)
