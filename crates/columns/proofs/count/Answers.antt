use Rattle.integers.proofs.Kit.{ℕ, ◌≡◌, ◌+◌, refl, ap, arith, length}
use Rattle.tables.specs.Storage.{transition_in}
use Rattle.columns.specs.Columns.{cells_of}
use Rattle.columns.proofs.Columns.{cells-none, length_some, cells-few}
use Rattle.columns.proofs.count.Goals as goal

pub loop-s-init : goal.loop-s-init
unfolding cells_of
loop-s-init c = refl

pub overflow_add-found : goal.overflow_add-found
overflow_add-found c =
    let a = c.args in
    omega (arith, cells-few (λ s. transition_in a.n a.cells.now s a.a.0 a.to.0) c.loop-s.s)

pub loop-s-preserved : goal.loop-s-preserved
loop-s-preserved c =
    let a = c.args in
    let t : ℕ → ℕ = λ s. transition_in a.n a.cells.now s a.a.0 a.to.0 in
    let s = c.loop-s.s in
    let some = length_some t s in
    let none : t s ≡ 0 → length (cells_of (s + 1) t) ≡ length (cells_of s t) = λ e. ap length (cells-none t s e) in
    grind arith
