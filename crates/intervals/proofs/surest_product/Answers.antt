use Rattle.integers.proofs.Kit.{ℕ, ◌+◌, ◌<◌, ◌≡◌, ◌∙◌, sym, ap, arith, true, List, ℤ, get_or, pos}
use Rattle.integers.proofs.Words.{answer}
use Rattle.integers.specs.Search.{first_largest_of}
use Rattle.tables.specs.Storage.{weight_in, entry_in, row_start}
use Rattle.masks.specs.Masks.{covered_in, masked_in}
use Rattle.masks.specs.Steps.{includes}
use Rattle.masks.proofs.Bits.{includes-covers}
use Rattle.plans.specs.Intervals.{least_product}
use Rattle.products.proofs.Found.{first-met, passed, passed-place, larger, taken, left, left-place, found_some}
use Rattle.products.proofs.Places.{here-masked}
use Rattle.bounds.specs.Steps.{support_in}
use Rattle.bounds.proofs.Bounds.{support-covers}
use Rattle.intervals.specs.Steps.{least_in, Ranged}
use Rattle.intervals.proofs.Ranges.{least-where}
use Rattle.intervals.proofs.surest_product.Goals as goal
use Rattle.intervals.proofs.surest_product.Goals.{then-has+then-not-found, then-not-found-via-then-not-found}
use Rattle.intervals.proofs.surest_product.Goals.{then-not-found-via-else-not-found+then-most-here, then-has+else-not-found+else-most-here, else-has}

-- a vector that counts covers each state with a high above 0
covers : (masks highs : List ℕ) (n states v : ℕ) → states ≡ support_in n highs → includes (get_or masks v 0) states ≡ true
    → (s : ℕ) → s < n → 0 < weight_in highs s → covered_in masks v s ≡ true
covers masks highs n states v support holds s b above =
    includes-covers (get_or masks v 0) states s holds (rw support (support-covers n highs s b above))

-- its least product, as it is worked out
least : (lows highs masks : List ℕ) (entries : List ℤ) (n v : ℕ) {at : ℕ} {r : ℤ} → Ranged n lows highs
    → ((s : ℕ) → s < n → 0 < weight_in highs s → covered_in masks v s ≡ true) → at ≡ row_start n v
    → r ≡ least_product n (weight_in lows) (weight_in highs) (λ s. get_or entries (at + s) (pos 0)) → r ≡ least_in n masks entries lows highs v
least lows highs masks entries n v ranged covered starts e =
    e
    ∙ ap (λ (z : ℕ). least_product n (weight_in lows) (weight_in highs) (λ s. get_or entries (z + s) (pos 0))) starts
    ∙ sym (least-where n (weight_in lows) (weight_in highs) (masked_in n masks entries v) (entry_in n entries v) ranged.ordered
    (λ x b above. rw (covered x b above)))

pub sure_product-here-requires-clause-by_index : goal.sure_product-here-requires-clause-by_index
sure_product-here-requires-clause-by_index c = λ s b above.
    let a = c.args in
    let h = here-masked a.highs.now a.entries.now a.n a.vectors c.loop-v.v (omega arith) c.start.ensures a.masks.now c.requires.masked_fit
    (covers a.masks.now a.highs.now a.n a.states c.loop-v.v c.requires.states_value.0 (sym c.has.ensures ∙ c.if-has.true)) in
    h.within s b (omega (arith, c.requires.ranged.ordered s b))

pub loop-v-preserved : goal.loop-v-preserved
loop-v-preserved c =
    let a = c.args in
    let p = λ (v : ℕ). includes (get_or a.masks.now v 0) a.states in
    let f = least_in a.n a.masks.now a.entries.now a.lows.now a.highs.now in
    let so_far = c.loop-v.invariant in
    let tested = sym c.has.ensures in
    elim c.if-has.branch [
      | then-has+then-not-found w ↦
          let holds = tested ∙ w.if-has.true in
          let covered = covers a.masks.now a.highs.now a.n a.states c.loop-v.v c.requires.states_value.0 holds in
          let here = least a.lows.now a.highs.now a.masks.now a.entries.now a.n c.loop-v.v c.requires.ranged covered w.start.ensures
          (answer w.sure_product-here.type_inv w.sure_product-here.ensures) in
          let first : first_largest_of (c.loop-v.v + 1) p f ≡ c.loop-v.v = elim w.then-not-found.branch [
            | then-not-found-via-then-not-found u ↦ first-met p f c.loop-v.v holds (so_far.none u.if-not-found.true)
            | then-not-found-via-else-not-found+then-most-here u ↦ larger p f so_far holds here u.if-most-here.true u.if-not-found.false
          ] in
          taken p f so_far holds here first w.found-is first w.most-is
      | then-has+else-not-found+else-most-here w ↦
          let holds = tested ∙ w.if-has.true in
          let covered = covers a.masks.now a.highs.now a.n a.states c.loop-v.v c.requires.states_value.0 holds in
          let here = least a.lows.now a.highs.now a.masks.now a.entries.now a.n c.loop-v.v c.requires.ranged covered w.start.ensures
          (answer w.sure_product-here.type_inv w.sure_product-here.ensures) in
          let met = w.if-not-found.false in
          let not = w.if-most-here.false in
          left p f so_far holds here met not w.found-is (left-place p f so_far holds here met not) w.most-is
      | else-has w ↦
          let not = tested ∙ w.if-has.false in
          passed p f so_far not w.found-is (passed-place p f so_far not) w.most-is
    ]

pub returns : goal.returns
returns c =
    let a = c.args in
    let e : c.loop-v.v ≡ a.vectors = omega arith in
    found_some (λ v. includes (get_or a.masks.now v 0) a.states) (least_in a.n a.masks.now a.entries.now a.lows.now a.highs.now)
    (rw e at c.loop-v.invariant) c.requires.states_value.1
