use Rattle.integers.proofs.Kit.{◌≡◌, ◌∙◌, ap, ℕ, ℤ, get_or, pos, ◌+ℤ◌, to_z, of_z, w64, to_z-of_z}
use Rattle.integers.specs.Whole.{◌·◌}
use Rattle.integers.proofs.Lists.{laid-cong}
use Rattle.columns.specs.Columns.{turned_back}
use Rattle.sparse.proofs.Cells.{said-turned}
use Rattle.sparse.proofs.add_column.Goals as goal

pub add_cells-requires-clause-by_index : goal.add_cells-requires-clause-by_index
add_cells-requires-clause-by_index c = λ s l.
    let a = c.args in
    let said = said-turned a.n a.list.now a.a.0 a.to.0 c.first_of-first.ensures c.count_of-count.ensures s in
    let same : to_z w64 (of_z w64 a.x) ≡ a.x = to_z-of_z c.ranges.x in
    rw (said, same) (c.requires.by_index s l)

pub returns : goal.returns
returns c =
    let a = c.args in
    let said = said-turned a.n a.list.now a.a.0 a.to.0 c.first_of-first.ensures c.count_of-count.ensures in
    let same : to_z w64 (of_z w64 a.x) ≡ a.x = to_z-of_z c.ranges.x in
    c.add_cells.ensures ∙ laid-cong a.n _ _ a.sums.now
    (λ s l. ap (λ (k : ℕ). get_or a.sums.now s (pos 0) +ℤ k · to_z w64 (of_z w64 a.x)) (said s)
    ∙ ap (λ (z : ℤ). get_or a.sums.now s (pos 0) +ℤ turned_back a.n a.list.now s a.a.0 a.to.0 · z) same)
