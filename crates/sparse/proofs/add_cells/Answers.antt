use Rattle.integers.proofs.Kit.{◌<◌, ◌≡◌, ◌∙◌, sym, arith, rules, get_or, pos, to_z, of_z, w64, to_z-of_z}
use Rattle.integers.proofs.Words.{answer}
use Rattle.sparse.proofs.Cells.{added_none, added_more, added-fits}
use Rattle.sparse.proofs.add_cells.Goals as goal

pub loop-i-init : goal.loop-i-init
loop-i-init c =
    let a = c.args in
    sym (added_none a.list.now a.first a.n (to_z w64 (of_z w64 a.x)) a.sums.now c.requires.n_in_bounds)

pub add_scaled-requires-clause-a_bound : goal.add_scaled-requires-clause-a_bound
add_scaled-requires-clause-a_bound c =
    let a = c.args in
    let i = c.loop-i.i in
    let column = c.requires.column_stored in
    let added : to_z w64 (of_z w64 a.x) ≡ a.x = to_z-of_z c.ranges.x in
    let cell = get_or c.loop-i.sums c.state_of-s.result (pos 0) in
    let same : to_z w64 (of_z w64 cell) ≡ cell = search rules in
    rw (same, c.chance_of.ensures, c.state_of-s.ensures, added)
    (added-fits a.list.now a.first a.n a.x a.sums.now c.requires.n_in_bounds i a.count (rw added at c.loop-i.invariant) c.loop-i-test.true
    (column.state_in i c.loop-i-test.true) c.requires.by_index)

pub loop-i-preserved : goal.loop-i-preserved
loop-i-preserved c =
    let a = c.args in
    let i = c.loop-i.i in
    let cell = get_or c.loop-i.sums c.state_of-s.result (pos 0) in
    let same : to_z w64 (of_z w64 cell) ≡ cell = search rules in
    let there : c.state_of-s.result < a.n = omega (arith, c.requires.column_stored.state_in i c.loop-i-test.true) in
    added_more a.list.now a.first a.n (to_z w64 (of_z w64 a.x)) a.sums.now c.requires.n_in_bounds i c.loop-i.invariant c.state_of-s.ensures
    c.chance_of.ensures there (answer c.add_scaled.type_inv (c.add_scaled.ensures ∙ rw same))
