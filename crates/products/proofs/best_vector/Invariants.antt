use Rattle.integers.proofs.Kit.{get_or}
use Rattle.tables.specs.Storage.{weight_in}
use Rattle.masks.specs.Masks.{masked_in}
use Rattle.masks.specs.Steps.{includes}
use Rattle.plans.specs.Level.{product}
use Rattle.products.proofs.Found.{Found}
use Rattle.products.proofs.best_vector.Given as goal

abbrev pub invariant-loop-v : goal.invariant-loop-v
invariant-loop-v l =
    Found (λ v. includes (get_or l.masks v 0) l.states)
    (λ v. product l.n (weight_in l.q) (masked_in l.n l.masks l.entries v)) l.v l.found l.best l.most
