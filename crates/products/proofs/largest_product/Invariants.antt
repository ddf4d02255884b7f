use Rattle.integers.proofs.Kit.{◌≡◌}
use Rattle.plans.specs.Rows.{highest}
use Rattle.products.proofs.Places.{worth}
use Rattle.products.proofs.largest_product.Given as goal

abbrev pub invariant-loop-v : goal.invariant-loop-v
invariant-loop-v l = l.most ≡ highest l.v (worth l.q l.entries l.n)
