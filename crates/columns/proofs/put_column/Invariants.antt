use Rattle.integers.proofs.Kit.{◌≡◌, ℕ, ◌+◌, length}
use Rattle.integers.proofs.Lists.{Pasting}
use Rattle.tables.specs.Storage.{transition_in}
use Rattle.columns.specs.Columns.{cells_of}
use Rattle.columns.proofs.put_column.Given as goal

abbrev pub invariant-loop-s : goal.invariant-loop-s
invariant-loop-s l =
    let t : ℕ → ℕ = λ x. transition_in l.n l.cells x l.a.0 l.to.0 in
    (l.next ≡ l.at + length (cells_of l.s t)) × Pasting l.at (length (cells_of l.s t)) (cells_of l.n t) l.initial.list l.list
