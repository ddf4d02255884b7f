use Rattle.integers.proofs.Kit.{◌≡◌, length}
use Rattle.tables.specs.Storage.{transition_in}
use Rattle.columns.specs.Columns.{cells_of}
use Rattle.columns.proofs.count.Given as goal

abbrev pub invariant-loop-s : goal.invariant-loop-s
invariant-loop-s l = l.found ≡ length (cells_of l.s (λ x. transition_in l.n l.cells x l.a.0 l.to.0))
