use Rattle.std.proofs.Common.{◌≡◌, List, ℕ, ◌/◌, ◌%◌}
use Rattle.integers.specs.Cells.{laid}
use Rattle.tables.specs.Storage.{entry_in, model_in}
use Rattle.plans.specs.Rows.{qmdp_next}
use Rattle.rows.proofs.step_qmdp.Given as goal

abbrev pub invariant-loop-i : goal.invariant-loop-i
invariant-loop-i l =
    (O : List ℕ) → l.next ≡ laid l.i (λ i. qmdp_next (model_in l.c l.transition O l.reward) (entry_in l.c.states l.rows) (i / l.c.states) (i % l.c.states))
    l.initial.next
