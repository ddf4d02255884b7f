use Rattle.integers.proofs.Kit.{◌+◌, ◌≡◌, ◌∙◌, refl, sym, arith, rules, get_or, pos, w64, to_z, of_z, lit<}
use Rattle.integers.proofs.Words.{answer}
use Rattle.tables.specs.Storage.{weight_in}
use Rattle.plans.specs.Level.{product}
use Rattle.integers.proofs.Sums.{sum-none, sum_step}
use Rattle.products.proofs.Weighed.{weighed-fits}
use Rattle.products.proofs.product.Goals as goal

pub loop-s-init : goal.loop-s-init
loop-s-init c = sym (sum-none _)

pub add_scaled-sum-requires-clause-a_bound : goal.add_scaled-sum-requires-clause-a_bound
add_scaled-sum-requires-clause-a_bound c =
    let a = c.args in let r = c.requires in
    let cell = get_or a.cells.now (a.at + c.loop-s.s) (pos 0) in
    let same : to_z w64 (of_z w64 cell) ≡ cell = search rules in
    (weighed-fits (weight_in a.q.now) (λ i. get_or a.cells.now (a.at + i) (pos 0)) r.below.below r.by_index _
    c.loop-s.invariant refl same (omega arith) (lit< tt) (omega arith)).1

pub loop-s-preserved : goal.loop-s-preserved
loop-s-preserved c =
    let a = c.args in
    let cell = get_or a.cells.now (a.at + c.loop-s.s) (pos 0) in
    let same : to_z w64 (of_z w64 cell) ≡ cell = search rules in
    answer c.add_scaled-sum.type_inv (c.add_scaled-sum.ensures ∙ rw same (sum_step _ _ c.loop-s.invariant))

pub returns : goal.returns
unfolding product
returns c = let e : c.loop-s.s ≡ c.args.n = omega arith in rw e at c.loop-s.invariant
