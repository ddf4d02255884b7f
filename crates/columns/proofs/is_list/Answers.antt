use Rattle.integers.proofs.Kit.{◌∙◌, refl, sym, arith}
use Rattle.tables.specs.Storage.{transition_in}
use Rattle.columns.proofs.Columns.{list_length, short-list, in_parts}
use Rattle.columns.proofs.is_list.Goals as goal

pub returns-then-list-size : goal.returns-then-list-size
returns-then-list-size c =
    let a = c.args in
    sym (short-list a.n (transition_in a.n a.cells.now) a.m a.list.now (rw c.size.ensures at c.if-list-size.true))

pub begins_hold-requires-clause-n_in_bounds : goal.begins_hold-requires-clause-n_in_bounds
begins_hold-requires-clause-n_in_bounds c =
    let a = c.args in
    omega (arith, c.size.ensures, list_length a.n (transition_in a.n a.cells.now) a.m)

pub returns-then-not-begins_hold : goal.returns-then-not-begins_hold
returns-then-not-begins_hold c =
    let a = c.args in
    sym (in_parts a.n (transition_in a.n a.cells.now) a.m a.list.now (rw c.size.ensures at c.if-list-size.false) c.begins_hold.ensures refl
    ∙ rw c.if-not-begins_hold.true refl)

pub returns : goal.returns
returns c =
    let a = c.args in
    sym (in_parts a.n (transition_in a.n a.cells.now) a.m a.list.now (rw c.size.ensures at c.if-list-size.false) c.begins_hold.ensures
    c.cells_hold.ensures ∙ rw c.if-not-begins_hold.false refl)
