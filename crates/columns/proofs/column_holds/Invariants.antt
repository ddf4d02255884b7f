use Rattle.integers.proofs.Kit.{◌≡◌, ℕ, ◌+◌, length, true}
use Rattle.integers.specs.Search.{every}
use Rattle.tables.specs.Storage.{transition_in}
use Rattle.columns.specs.Columns.{cells_of}
use Rattle.columns.proofs.Columns.{same}
use Rattle.columns.proofs.column_holds.Given as goal

abbrev pub invariant-loop-s : goal.invariant-loop-s
invariant-loop-s l =
    let t : ℕ → ℕ = λ x. transition_in l.n l.cells x l.a.0 l.to.0 in
    (l.next ≡ l.at + length (cells_of l.s t)) × (every (length (cells_of l.s t)) (same l.list l.at (cells_of l.n t)) ≡ true)
