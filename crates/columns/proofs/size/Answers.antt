use Rattle.integers.proofs.Kit.{◌+◌, ◌*◌, ◌≡◌, ◌∙◌, sym, ap, arith}
use Rattle.tables.specs.Storage.{transition_in}
use Rattle.columns.specs.Columns.{cells_before, begins}
use Rattle.columns.proofs.Columns.{list_length, begins-more}
use Rattle.columns.proofs.Steps.{begins-few, column-stored}
use Rattle.columns.proofs.size.Goals as goal

pub loop-c-init : goal.loop-c-init
unfolding cells_before
loop-c-init c = omega arith

pub count-at-requires-clause-a_in_bounds : goal.count-at-requires-clause-a_in_bounds
count-at-requires-clause-a_in_bounds c = column-stored c.requires c.loop-c.c c.loop-c-test.true

pub overflow_add-at-in-loop-c : goal.overflow_add-at-in-loop-c
overflow_add-at-in-loop-c c =
    let a = c.args in
    let behind = begins-more a.n (transition_in a.n a.cells.now) a.m c.loop-c.c c.loop-c.invariant c.count-at.ensures in
    omega (arith, behind, begins-few c.requires (c.loop-c.c + 1) (omega arith))

pub loop-c-preserved : goal.loop-c-preserved
loop-c-preserved c =
    let a = c.args in
    begins-more a.n (transition_in a.n a.cells.now) a.m c.loop-c.c c.loop-c.invariant c.count-at.ensures

pub returns : goal.returns
returns c =
    let a = c.args in
    let T = transition_in a.n a.cells.now in
    let e : c.loop-c.c ≡ a.m * a.n = omega arith in
    c.loop-c.invariant ∙ ap (begins a.n a.m T) e ∙ sym (list_length a.n T a.m)
