use Rattle.integers.proofs.Kit.{ℕ, Bool, ℤ, get_or}
use Rattle.integers.specs.Search.{first_largest_of}
use Rattle.masks.specs.Steps.{includes}
use Rattle.products.proofs.Found.{Found}
use Rattle.intervals.specs.Steps.{least_in}
use Rattle.intervals.proofs.surest_product.Given as goal

-- what the search has below v, the place of the first largest being no part of it
abbrev pub invariant-loop-v : goal.invariant-loop-v
invariant-loop-v l =
    let p : ℕ → Bool = λ v. includes (get_or l.masks v 0) l.states in
    let f : ℕ → ℤ = least_in l.n l.masks l.entries l.lows l.highs in
    Found p f l.v l.found (first_largest_of l.v p f) l.most
