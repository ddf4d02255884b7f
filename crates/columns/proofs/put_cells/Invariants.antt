use Rattle.integers.proofs.Kit.{◌≡◌, ◌+◌, ◌*◌, length}
use Rattle.integers.proofs.Lists.{Pasting}
use Rattle.tables.specs.Storage.{transition_in}
use Rattle.columns.specs.Columns.{cells_before, begins}
use Rattle.columns.proofs.put_cells.Given as goal

abbrev pub invariant-loop-c : goal.invariant-loop-c
invariant-loop-c l =
    let before = cells_before l.n (transition_in l.n l.cells) in
    (l.at ≡ begins l.n l.m (transition_in l.n l.cells) l.c)
    × Pasting (l.m * l.n + 1) (length (before l.c)) (before (l.m * l.n)) l.initial.list l.list
