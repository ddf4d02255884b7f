use Rattle.integers.proofs.Kit.{◌≡◌, ◌∙◌, sym, arith, rules, pos, get_or, to_z, of_z, w64}
use Rattle.integers.proofs.Lists.{padded-at, padded-cong, padded-same}
use Rattle.integers.proofs.Sums.{sum-none}
use Rattle.tables.specs.Limits.{max_states}
use Rattle.sparse.specs.Steps.{onward_said}
use Rattle.sparse.proofs.Cells.{onward_to, onward-more, onward-fits}
use Rattle.sparse.proofs.onward.Goals as goal

pub loop-to-init : goal.loop-to-init
loop-to-init c =
    let a = c.args in
    sym (padded-cong (pos 0) max_states a.n (onward_to a.n a.list.now a.f.now a.a.0 0) (λ s. pos 0) (λ s l. sum-none _)
    ∙ padded-same (pos 0) max_states a.n c.requires.n_le_max_states.0)

pub add_column-requires-clause-column_fits : goal.add_column-requires-clause-column_fits
add_column-requires-clause-column_fits c = c.requires.columns_fit.column c.loop-to.to c.loop-to-test.true

pub add_column-requires-clause-by_index : goal.add_column-requires-clause-by_index
add_column-requires-clause-by_index c = λ s h.
    let a = c.args in
    let to = c.loop-to.to in
    let cell = get_or a.f.now to (pos 0) in
    let same : to_z w64 (of_z w64 cell) ≡ cell = search rules in
    rw (c.loop-to.invariant, padded-at (pos 0) max_states a.n (onward_to a.n a.list.now a.f.now a.a.0 to) s (pos 0) h, same)
    (onward-fits c.requires.columns_fit c.requires.within c.requires.n_le_max_states.0 h to c.loop-to-test.true)

pub loop-to-preserved : goal.loop-to-preserved
loop-to-preserved c =
    let a = c.args in
    let to = c.loop-to.to in
    let cell = get_or a.f.now to (pos 0) in
    let same : to_z w64 (of_z w64 cell) ≡ cell = search rules in
    onward-more max_states a.n a.list.now a.f.now a.a.0 to c.loop-to.invariant same c.add_column.ensures

pub returns : goal.returns
unfolding onward_said
returns c = let e : c.loop-to.to ≡ c.args.n = omega arith in rw e at c.loop-to.invariant
