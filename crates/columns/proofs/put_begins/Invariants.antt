use Rattle.integers.proofs.Kit.{◌≡◌, ℕ}
use Rattle.integers.specs.Cells.{laid}
use Rattle.tables.specs.Storage.{transition_in}
use Rattle.columns.specs.Columns.{begins}
use Rattle.columns.proofs.put_begins.Given as goal

abbrev pub invariant-loop-c : goal.invariant-loop-c
invariant-loop-c l =
    let first : ℕ → ℕ = begins l.n l.m (transition_in l.n l.cells) in
    (l.at ≡ first l.c) × (l.list ≡ laid l.c first l.initial.list)
