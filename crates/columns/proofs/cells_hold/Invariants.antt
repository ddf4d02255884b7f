use Rattle.integers.proofs.Kit.{◌≡◌, ◌+◌, ◌*◌, length, true}
use Rattle.integers.specs.Search.{every}
use Rattle.tables.specs.Storage.{transition_in}
use Rattle.columns.specs.Columns.{cells_before, begins}
use Rattle.columns.proofs.Columns.{same}
use Rattle.columns.proofs.cells_hold.Given as goal

abbrev pub invariant-loop-c : goal.invariant-loop-c
invariant-loop-c l =
    let before = cells_before l.n (transition_in l.n l.cells) in
    (l.at ≡ begins l.n l.m (transition_in l.n l.cells) l.c)
    × (every (length (before l.c)) (same l.list (l.m * l.n + 1) (before (l.m * l.n))) ≡ true)
