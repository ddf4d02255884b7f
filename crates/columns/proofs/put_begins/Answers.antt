use Rattle.integers.proofs.Kit.{ℕ, ◌+◌, ◌*◌, ◌≡◌, ◌∙◌, sym, ap, arith}
use Rattle.integers.specs.Cells.{laid}
use Rattle.integers.proofs.Lists.{laid_none, laid-turn}
use Rattle.tables.specs.Storage.{transition_in}
use Rattle.columns.specs.Columns.{cells_before, begins}
use Rattle.columns.proofs.Columns.{begins-more}
use Rattle.columns.proofs.Steps.{begins-few, column-stored}
use Rattle.columns.proofs.put_begins.Goals as goal

pub loop-c-init : goal.loop-c-init
unfolding cells_before
loop-c-init c = (omega arith, sym (laid_none _ _))

pub word-requires : goal.word-requires
word-requires c = rw c.loop-c.invariant.0 (begins-few c.requires.table_fits c.loop-c.c (omega arith))

pub count-at-requires-clause-a_in_bounds : goal.count-at-requires-clause-a_in_bounds
count-at-requires-clause-a_in_bounds c = column-stored c.requires.table_fits c.loop-c.c c.loop-c-test.true

pub overflow_add-at-in-loop-c : goal.overflow_add-at-in-loop-c
overflow_add-at-in-loop-c c =
    let a = c.args in
    let behind = begins-more a.n (transition_in a.n a.cells.now) a.m c.loop-c.c c.loop-c.invariant.0 c.count-at.ensures in
    omega (arith, behind, begins-few c.requires.table_fits (c.loop-c.c + 1) (omega arith))

pub loop-c-preserved : goal.loop-c-preserved
loop-c-preserved c =
    let a = c.args in (
      begins-more a.n (transition_in a.n a.cells.now) a.m c.loop-c.c c.loop-c.invariant.0 c.count-at.ensures,
      laid-turn _ c.loop-c.c a.list.now 0 c.loop-c.invariant.1 (c.word.ensures ∙ c.loop-c.invariant.0) (omega arith),
    )

pub word-requires-2 : goal.word-requires-2
word-requires-2 c = rw c.loop-c.invariant.0 (begins-few c.requires.table_fits c.loop-c.c (omega arith))

pub returns : goal.returns
returns c =
    let a = c.args in
    let first = begins a.n a.m (transition_in a.n a.cells.now) in
    let e : c.loop-c.c ≡ a.m * a.n = omega arith in
    laid-turn first (a.m * a.n) a.list.now 0 (c.loop-c.invariant.1 ∙ ap (λ (k : ℕ). laid k first a.list.now) e)
    (c.word-2.ensures ∙ c.loop-c.invariant.0 ∙ ap first e) (omega arith)
