use Rattle.rows.proofs.Prelude.{◌≡◌, ◌∙◌, refl, sym, arith, w64, to_z, of_z, answer}
use Rattle.integers.proofs.Sums.{sum-none, sum_step}
use Rattle.rows.specs.Steps.{best_row_in}
use Rattle.rows.proofs.Stepped.{reached-below, sums-fit}
use Rattle.rows.proofs.ahead.Goals as goal

pub loop-o-init : goal.loop-o-init
loop-o-init c = sym (sum-none _)

pub largest_product-requires-clause-below : goal.largest_product-requires-clause-below
largest_product-requires-clause-below c =
    let r = c.requires in
    reached-below r.n_le_max_states.0 r.below r.observations_fit r.entries_fit _ c.loop-o-test.true c.successors-q.ensures

pub plus-sum-requires : goal.plus-sum-requires
unfolding best_row_in
plus-sum-requires c =
    let r = c.requires in
    let (states, (observations, (_, some_action))) = r.n_le_max_states in
    sums-fit states r.below r.observations_fit r.entries_fit some_action observations _ c.loop-o-test.true c.loop-o.invariant
    (answer c.largest_product.type_inv (c.largest_product.ensures ∙ rw c.successors-q.ensures refl))

pub loop-o-preserved : goal.loop-o-preserved
unfolding best_row_in
loop-o-preserved c =
    let a = c.args in
    let met : to_z w64 (of_z w64 c.largest_product.result) ≡ best_row_in a.n a.k a.m a.observation.now a.u.now a.rows.now a.a.0 c.loop-o.o
    = answer c.largest_product.type_inv (c.largest_product.ensures ∙ rw c.successors-q.ensures refl) in
    answer c.plus-sum.type_inv (c.plus-sum.ensures ∙ rw met (sum_step _ _ c.loop-o.invariant))

pub returns : goal.returns
returns c = let e : c.loop-o.o ≡ c.args.k = omega arith in rw e at c.loop-o.invariant
