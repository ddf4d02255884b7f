use Rattle.integers.proofs.Kit.{◌≡◌, ◌∙◌, w64, to_z, of_z}
use Rattle.integers.proofs.Words.{answer}
use Rattle.plans.proofs.Rows.{highest-first, highest-later, highest-same}
use Rattle.products.proofs.Places.{worth, from_start}
use Rattle.products.proofs.largest_product.Goals as goal
use Rattle.products.proofs.largest_product.Goals.{then-most-met, else-most-met}

pub loop-v-init : goal.loop-v-init
loop-v-init c =
    let a = c.args in
    from_start a.q.now a.entries.now a.n 0 c.start.ensures
    (answer c.product-most.type_inv c.product-most.ensures) ∙ highest-first (worth a.q.now a.entries.now a.n)

pub loop-v-preserved : goal.loop-v-preserved
loop-v-preserved c =
    let a = c.args in
    let so_far = c.loop-v.invariant in
    let met : to_z w64 (of_z w64 c.product-met.result) ≡ worth a.q.now a.entries.now a.n c.loop-v.v
    = from_start a.q.now a.entries.now a.n c.loop-v.v c.start-in-loop-v.ensures (answer c.product-met.type_inv c.product-met.ensures) in
    elim c.if-most-met.branch [
      | then-most-met w ↦ w.most-is ∙ highest-later _ _ so_far met w.if-most-met.true
      | else-most-met w ↦ w.most-is ∙ highest-same _ _ so_far met w.if-most-met.false
    ]
