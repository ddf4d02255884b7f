use Rattle.integers.proofs.Kit.{◌≡◌, ◌∙◌, pos, ◌+ℤ◌, arith, w64, to_z, of_z, to_z-of_z, to_z_pos}
use Rattle.integers.proofs.Words.{answer}
use Rattle.plans.specs.Prices.{risen}
use Rattle.pricing.proofs.risen.Goals as goal

pub returns : goal.returns
unfolding risen
returns c =
    let (limit, (k, _)) = c.requires in
    let limit-is : to_z w64 c.args.limit ≡ pos c.args.limit = to_z_pos w64 {n = c.args.limit} (omega arith) in
    let k-is : to_z w64 c.args.k ≡ pos c.args.k = to_z_pos w64 {n = c.args.k} (omega arith) in
    let higher : to_z w64 (of_z w64 c.plus.result) ≡ c.args.x +ℤ pos c.args.k
    = answer c.plus.type_inv (c.plus.ensures ∙ rw (to_z-of_z c.ranges.x, k-is)) in
    answer c.lesser.type_inv (c.lesser.ensures ∙ rw (higher, limit-is))
