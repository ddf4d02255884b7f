use Rattle.integers.proofs.Kit.{◌≡◌, ◌∙◌, sym, ap, List, ℤ, pos, ℕ, ◌≤◌, ◌<◌, ◌+◌, ◌*◌, arith, rules, get_or, mul-le-mul}
use Rattle.integers.specs.Whole.{total_to}
use Rattle.integers.proofs.Words.{back, answer}
use Rattle.integers.proofs.Lists.{laid_none, laid-turn}
use Rattle.tables.specs.Limits.{max_entry}
use Rattle.plans.specs.Limits.{max_total}
use Rattle.levels.specs.Storage.{point_in}
use Rattle.pricing.specs.Steps.{max_move, value_in, PricedPoints}
use Rattle.pricing.proofs.Moved.{still-here}
use Rattle.pricing.proofs.raise_values.Goals as goal

-- the total of a point's weights, by what the calls answer; it times the limit and times the move is small
total-said : (n i at total : ℕ) (weights : List ℕ) → total ≡ total_to n (λ s. get_or weights (at + s) 0) → at ≡ i * n
    → total ≡ total_to n (point_in n weights i)
total-said n i at total weights e f = e ∙ ap (λ (z : ℕ). total_to n (λ s. get_or weights (z + s) 0)) f

times-few : {n points limit i total x most : ℕ} {weights : List ℕ} {values : List ℤ} → PricedPoints n points limit weights values → i < points
    → total ≡ total_to n (point_in n weights i) → x ≤ most → total * x ≤ max_total * most
times-few {i} p l e few = rw e (mul-le-mul (p.total i l) few)

pub loop-i-init : goal.loop-i-init
loop-i-init c = sym (laid_none _ _)

pub overflow_mul-total : goal.overflow_mul-total
overflow_mul-total c =
    let said = total-said c.args.n c.loop-i.i _ _ c.args.weights.now c.weights_total-total.ensures c.start.ensures in
    let few : c.weights_total-total.result * c.args.limit ≤ max_total * max_entry
    = times-few c.requires.priced_points c.loop-i-test.true said c.requires.limit_le_max_entry.0 in
    omega (arith, few)

pub overflow_mul-total-in-loop-i : goal.overflow_mul-total-in-loop-i
overflow_mul-total-in-loop-i c =
    let said = total-said c.args.n c.loop-i.i _ _ c.args.weights.now c.weights_total-total.ensures c.start.ensures in
    let few : c.weights_total-total.result * c.args.k ≤ max_total * max_move
    = times-few c.requires.priced_points c.loop-i-test.true said c.requires.limit_le_max_entry.1 in
    omega (arith, few)

pub risen-requires : goal.risen-requires
risen-requires c =
    let a = c.args in
    let i = c.loop-i.i in
    let said = total-said a.n i _ _ a.weights.now c.weights_total-total.ensures c.start.ensures in
    let limit-few : c.weights_total-total.result * a.limit ≤ max_total * max_entry
    = times-few c.requires.priced_points c.loop-i-test.true said c.requires.limit_le_max_entry.0 in
    let move-few : c.weights_total-total.result * a.k ≤ max_total * max_move
    = times-few c.requires.priced_points c.loop-i-test.true said c.requires.limit_le_max_entry.1 in (
      omega (arith, limit-few),
      (
        omega (arith, move-few),
        rw (back (get_or c.loop-i.values i (pos 0)) (search rules), still-here i _ a.values.now c.loop-i.invariant)
            (omega (arith, limit-few, rw (← said) at (c.requires.priced_points.value i c.loop-i-test.true))),
      ),
    )

pub loop-i-preserved : goal.loop-i-preserved
loop-i-preserved c =
    let a = c.args in
    let i = c.loop-i.i in
    let said = total-said a.n i _ _ a.weights.now c.weights_total-total.ensures c.start.ensures in
    let value : c.risen.result ≡ value_in a.n a.limit a.k a.weights.now a.values.now i = c.risen.ensures ∙ rw (
      said,
      back (get_or c.loop-i.values i (pos 0)) (search rules),
      still-here i _ a.values.now c.loop-i.invariant,
    ) in
    laid-turn (value_in a.n a.limit a.k a.weights.now a.values.now) i a.values.now (pos 0) c.loop-i.invariant
    (answer c.risen.type_inv value) (omega (arith, c.requires.priced_points.values_long))
