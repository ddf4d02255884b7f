use Rattle.integers.proofs.Kit.{◌∙◌, ◌*◌, ap, ℕ}
use Rattle.integers.proofs.Sums.{total-cong}
use Rattle.tables.specs.Storage.{weight_in}
use Rattle.sparse.specs.Steps.{moved_said}
use Rattle.sparse.proofs.Cells.{said-turned}
use Rattle.sparse.proofs.moved_to.Goals as goal

pub returns : goal.returns
unfolding moved_said
returns c =
    let a = c.args in
    let said = said-turned a.n a.list.now a.a.0 a.to.0 c.first_of-first.ensures c.count_of-count.ensures in
    c.down.ensures ∙ total-cong a.n _ _ (λ s l. ap (λ (k : ℕ). weight_in a.p.now s * k) (said s))
