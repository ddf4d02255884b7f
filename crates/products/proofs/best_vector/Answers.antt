use Rattle.integers.proofs.Kit.{ℕ, List, ℤ, pos, ◌+◌, ◌<◌, ◌≡◌, ◌∙◌, sym, arith, true, get_or}
use Rattle.integers.specs.Search.{first_largest_of}
use Rattle.integers.proofs.Words.{answer}
use Rattle.tables.specs.Storage.{weight_in, row_start}
use Rattle.masks.specs.Masks.{covered, masked_in}
use Rattle.masks.specs.Steps.{includes}
use Rattle.masks.proofs.Bits.{includes-covers}
use Rattle.plans.specs.Level.{product}
use Rattle.products.proofs.Found.{found_nothing, first-met, passed, larger, taken, left}
use Rattle.products.proofs.Weighed.{product-masked}
use Rattle.products.proofs.Places.{from_start, here-masked}
use Rattle.products.proofs.best_vector.Goals as goal
use Rattle.products.proofs.best_vector.Goals.{then-has+then-not-found, then-not-found-via-then-not-found}
use Rattle.products.proofs.best_vector.Goals.{then-not-found-via-else-not-found+then-most-here, then-has+else-not-found+else-most-here, else-has}

pub loop-v-init : goal.loop-v-init
loop-v-init c = found_nothing _ _

pub product-here-requires-clause-by_index : goal.product-here-requires-clause-by_index
product-here-requires-clause-by_index c =
    let a = c.args in
    (here-masked a.q.now a.entries.now a.n a.vectors c.loop-v.v (omega arith) c.start.ensures a.masks.now c.requires.masked_fit
    (λ s b w. includes-covers (get_or a.masks.now c.loop-v.v 0) a.states s (sym c.has.ensures ∙ c.if-has.true) (c.requires.by_index s b w))).within

-- what a vector that counts is worth, by its product
worth : (q masks : List ℕ) (entries : List ℤ) (n states v : ℕ) {at : ℕ} {r : ℤ} → includes (get_or masks v 0) states ≡ true
    → ((s : ℕ) → s < n → 0 < weight_in q s → covered states s ≡ true) → at ≡ row_start n v
    → r ≡ product n (weight_in q) (λ s. get_or entries (at + s) (pos 0)) → r ≡ product n (weight_in q) (masked_in n masks entries v)
worth q masks entries n states v holds support e h =
    from_start q entries n v e h
    ∙ sym (product-masked n (weight_in q) masks entries v (λ s b w. includes-covers (get_or masks v 0) states s holds (support s b w)))

pub loop-v-preserved : goal.loop-v-preserved
loop-v-preserved c =
    let a = c.args in
    let p = λ (v : ℕ). includes (get_or a.masks.now v 0) a.states in
    let f = λ (v : ℕ). product a.n (weight_in a.q.now) (masked_in a.n a.masks.now a.entries.now v) in
    let so_far = c.loop-v.invariant in
    let tested = sym c.has.ensures in
    elim c.if-has.branch [
      | then-has+then-not-found w ↦
          let holds = tested ∙ w.if-has.true in
          let here = worth a.q.now a.masks.now a.entries.now a.n a.states c.loop-v.v holds c.requires.by_index w.start.ensures
          (answer w.product-here.type_inv w.product-here.ensures) in
          let first : first_largest_of (c.loop-v.v + 1) p f ≡ c.loop-v.v = elim w.then-not-found.branch [
            | then-not-found-via-then-not-found u ↦ first-met p f c.loop-v.v holds (so_far.none u.if-not-found.true)
            | then-not-found-via-else-not-found+then-most-here u ↦
                larger p f so_far holds here u.if-most-here.true u.if-not-found.false
          ] in
          taken p f so_far holds here first w.found-is w.best-is w.most-is
      | then-has+else-not-found+else-most-here w ↦
          let holds = tested ∙ w.if-has.true in
          let here = worth a.q.now a.masks.now a.entries.now a.n a.states c.loop-v.v holds c.requires.by_index w.start.ensures
          (answer w.product-here.type_inv w.product-here.ensures) in
          left p f so_far holds here w.if-not-found.false w.if-most-here.false w.found-is w.best-is w.most-is
      | else-has w ↦ passed p f so_far (tested ∙ w.if-has.false) w.found-is w.best-is w.most-is
    ]
