use Rattle.bounds.proofs.Prelude.{ℕ, ◌≡◌, ◌∙◌, ap, sym, true, arith}
use Rattle.tables.specs.Storage.{weight_in}
use Rattle.integers.proofs.Kit.{◌+◌, ◌<◌, get_or, pos, w64, to_z, of_z}
use Rattle.integers.proofs.Lists.{row_below}
use Rattle.integers.proofs.Words.{answer}
use Rattle.masks.specs.Masks.{covered_in, masked_in}
use Rattle.masks.specs.Steps.{some_includes}
use Rattle.plans.specs.Level.{product}
use Rattle.products.proofs.Weighed.{product-masked}
use Rattle.bounds.specs.Steps.{best_in, lower_in, upper_in}
use Rattle.bounds.proofs.Bounds.{support-covers, best-below, best-covers, bounds-by}
use Rattle.bounds.proofs.bounds_at.Goals as goal
use Rattle.bounds.proofs.bounds_at.Goals.{After-best_vector-v, After-product-lower, After-lesser-upper}

-- the vector chosen
at-best : (c : After-best_vector-v) → let a = c.args in c.best_vector-v.result.0 ≡ best_in a.n a.vectors a.masks.now a.entries.now a.q.now
at-best c = rw c.requires.states_value.0 at c.best_vector-v.ensures

below : (c : After-best_vector-v) → c.best_vector-v.result.0 < c.args.vectors
below c = let a = c.args in best-below a.n a.masks.now a.entries.now a.q.now c.requires.asked.some_vectors (at-best c)

-- it counts
covers : (c : After-best_vector-v)
    → let a = c.args in (s : ℕ) → s < a.n → 0 < weight_in a.q.now s → covered_in a.masks.now c.best_vector-v.result.0 s ≡ true
covers c =
    let a = c.args in
    let (support, some) = c.requires.states_value in
    let counted = sym (ap (λ (x : ℕ). some_includes a.masks.now a.vectors x) support) ∙ some in
    best-covers a.n a.vectors a.masks.now a.entries.now a.q.now counted (at-best c)

-- the totals, from their bits
at-lower : (c : After-product-lower)
    → let a = c.args in to_z w64 (of_z w64 c.product-lower.result) ≡ lower_in a.n a.vectors a.masks.now a.entries.now a.q.now
at-lower c =
    let a = c.args in
    let v = (goal.at.After-product-lower c).After-best_vector-v in
    answer c.product-lower.type_inv c.product-lower.ensures
    ∙ ap (λ (z : ℕ). product a.n (weight_in a.q.now) (λ s. get_or a.entries.now (z + s) (pos 0))) c.start.ensures
    ∙ sym (product-masked a.n (weight_in a.q.now) a.masks.now a.entries.now c.best_vector-v.result.0 (covers v))
    ∙ ap (λ (v : ℕ). product a.n (weight_in a.q.now) (masked_in a.n a.masks.now a.entries.now v)) (at-best v)

at-upper : (c : After-lesser-upper)
    → let a = c.args in
    to_z w64 (of_z w64 c.lesser-upper.result) ≡ upper_in a.n a.m a.points a.corners.now a.weights.now a.informed.now a.gains.now a.q.now
at-upper c =
    answer c.lesser-upper.type_inv c.lesser-upper.ensures
    ∙ rw (answer c.ceiling-saw.type_inv c.ceiling-saw.ensures, answer c.largest_product-row.type_inv c.largest_product-row.ensures)

pub best_vector-v-requires-clause-by_index : goal.best_vector-v-requires-clause-by_index
best_vector-v-requires-clause-by_index c = λ s l above. rw c.requires.states_value.0 (support-covers c.args.n c.args.q.now s l above)

pub start-requires : goal.start-requires
start-requires c =
    let v = (goal.at.start-requires c).After-best_vector-v in
    let h = c.requires.asked in
    (omega (arith, below v, h.entries_fit.few), h.few_states)

pub product-lower-requires-clause-n_le_max_states : goal.product-lower-requires-clause-n_le_max_states
product-lower-requires-clause-n_le_max_states c =
    let v = (goal.at.product-lower-requires-clause-n_le_max_states c).After-best_vector-v in
    let h = c.requires.asked in
    (h.few_states, rw c.start.ensures (omega (arith, row_below c.best_vector-v.result.0 c.args.vectors c.args.n (below v), h.entries_fit.stored)))

pub product-lower-requires-clause-by_index : goal.product-lower-requires-clause-by_index
product-lower-requires-clause-by_index c =
    let v = (goal.at.product-lower-requires-clause-by_index c).After-best_vector-v in
    λ s b above. rw c.start.ensures (rw (covers v s b above) at (c.requires.asked.entries_fit.entry c.best_vector-v.result.0 (below v) s b))

pub minus-requires : goal.minus-requires
minus-requires c =
    let at = goal.at.minus-requires c in
    rw (at-upper at.After-lesser-upper, at-lower at.After-product-lower) (c.requires.asked.fits c.args.q.now c.requires.below)

pub returns : goal.returns
returns c =
    let a = c.args in
    let at = goal.at.returns c in
    bounds-by a.n a.m a.vectors a.points a.actions.now a.masks.now a.entries.now a.corners.now a.weights.now
    a.informed.now a.gains.now a.q.now (at-best at.After-best_vector-v) (at-lower at.After-product-lower)
    (answer c.ceiling-saw.type_inv c.ceiling-saw.ensures) (answer c.largest_product-row.type_inv c.largest_product-row.ensures)
    (answer c.lesser-upper.type_inv c.lesser-upper.ensures) (answer c.minus.type_inv c.minus.ensures) c.action.ensures
