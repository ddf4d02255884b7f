use Rattle.ceilings.proofs.Prelude.{◌≡◌, ◌∙◌, arith, w64, to_z, of_z, answer, weight_in, product, corner_in, first-cells}
use Rattle.integers.proofs.Kit.{◌-ℤ◌, to_z-of_z}
use Rattle.sawtooth.proofs.Laws.{gain-parts, positive-from}
use Rattle.ceilings.proofs.gain_of.Goals as goal
use Rattle.ceilings.proofs.gain_of.Goals.{After-product}

-- corners · p
at-corners : (c : After-product) → to_z w64 (of_z w64 c.product.result) ≡ product c.args.n (weight_in c.args.p.now) (corner_in c.args.corners.now)
at-corners c = answer c.product.type_inv (c.product.ensures ∙ first-cells _ _ c.args.corners.now)

pub minus-g-requires : goal.minus-g-requires
minus-g-requires c =
    let r = c.requires in
    rw (at-corners (goal.at.minus-g-requires c).After-product, to_z-of_z c.ranges.value)
    (omega (arith, gain-parts (weight_in c.args.p.now) c.args.value r.n_le_max_states r.corners_fit r.below.below r.value_bound))

pub returns : goal.returns
returns c =
    let gained = product c.args.n (weight_in c.args.p.now) (corner_in c.args.corners.now) -ℤ c.args.value in
    let gain : to_z w64 (of_z w64 c.minus-g.result) ≡ gained = answer c.minus-g.type_inv
    (c.minus-g.ensures ∙ rw (at-corners (goal.at.returns c).After-product, to_z-of_z c.ranges.value)) in
    rw gain (positive-from gained (rw gain at c.if-g-lt0.false)).1
