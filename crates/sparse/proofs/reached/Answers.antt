use Rattle.integers.proofs.Kit.{◌∙◌, ap, ℕ, ◌&&◌, ltb}
use Rattle.integers.proofs.Searches.{some-cong}
use Rattle.masks.specs.Masks.{covered}
use Rattle.sparse.proofs.Cells.{said-turned}
use Rattle.sparse.proofs.reached.Goals as goal

pub returns : goal.returns
returns c =
    let a = c.args in
    let said = said-turned a.n a.list.now a.a.0 a.to.0 c.first_of-first.ensures c.count_of-count.ensures in
    c.some_covered.ensures ∙ some-cong a.n _ _ (λ s l. ap (λ (k : ℕ). covered a.mask s && ltb 0 k) (said s))
