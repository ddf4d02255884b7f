use Rattle.ceilings.proofs.Prelude.{◌*◌, ◌≤◌, ◌≡◌, ◌∙◌, arith, pos, w64, to_z, of_z, answer, weight_in, product, max_reached, corner_in, first-cells}
use mir.Facts.{to_z_pos}
use Rattle.integers.proofs.Words.{fits}
use Rattle.sawtooth.specs.Steps.{ceiling_in, max_gain}
use Rattle.sawtooth.proofs.Laws.{product-limit, largest-limit}
use Rattle.ceilings.proofs.ceiling.Goals as goal
use Rattle.ceilings.proofs.ceiling.Goals.{After-largest_drop-d, After-product}

-- the drop, and corners · q
small : (c : After-largest_drop-d) → c.largest_drop-d.result ≤ max_reached * max_gain
small c =
    let a = c.args in
    rw c.largest_drop-d.ensures (largest-limit a.n a.points a.weights.now a.gains.now a.q.now c.requires.below c.requires.below_2)

drop : (c : After-largest_drop-d) → to_z w64 c.largest_drop-d.result ≡ pos c.largest_drop-d.result
drop c = to_z_pos w64 {n = c.largest_drop-d.result} (omega (arith, small c))

at-corners : (c : After-product) → to_z w64 (of_z w64 c.product.result) ≡ product c.args.n (weight_in c.args.q.now) (corner_in c.args.corners.now)
at-corners c = answer c.product.type_inv (c.product.ensures ∙ first-cells _ _ c.args.corners.now)

pub overflow_cast-d : goal.overflow_cast-d
overflow_cast-d c = fits (pos c.largest_drop-d.result) (omega (arith, small (goal.at.overflow_cast-d c).After-largest_drop-d))

pub minus-requires : goal.minus-requires
minus-requires c =
    let d = (goal.at.minus-requires c).After-largest_drop-d in
    let r = c.requires in
    rw (at-corners (goal.at.minus-requires c).After-product, drop d)
    (omega (arith, small d, product-limit max_reached (weight_in c.args.q.now) r.n_le_max_states r.corners_fit r.below.below))

pub returns : goal.returns
unfolding ceiling_in
returns c =
    answer c.minus.type_inv
    (c.minus.ensures ∙ rw (at-corners (goal.at.returns c).After-product, drop (goal.at.returns c).After-largest_drop-d, c.largest_drop-d.ensures))
