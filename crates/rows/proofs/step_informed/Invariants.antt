use Rattle.std.proofs.Common.{◌≡◌, ◌/◌, ◌%◌}
use Rattle.integers.specs.Cells.{laid}
use Rattle.tables.specs.Storage.{entry_in, model_in}
use Rattle.plans.specs.Rows.{informed_next}
use Rattle.rows.proofs.step_informed.Given as goal

abbrev pub invariant-loop-i : goal.invariant-loop-i
invariant-loop-i l =
    l.next ≡ laid l.i (λ i. informed_next (model_in l.c l.transition l.observation l.reward) (entry_in l.c.states l.rows) (i / l.c.states) (i % l.c.states))
    l.initial.next
