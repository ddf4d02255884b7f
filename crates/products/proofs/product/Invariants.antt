use Rattle.std.proofs.Common.{◌≡◌, ◌+◌, get_or, pos}
use Rattle.tables.specs.Storage.{weight_in}
use Rattle.integers.specs.Whole.{◌·◌, sum_to}
use Rattle.products.proofs.product.Given as goal

abbrev pub invariant-loop-s : goal.invariant-loop-s
invariant-loop-s l = l.sum ≡ sum_to l.s (λ i. weight_in l.q i · get_or l.cells (l.at + i) (pos 0))
