use Rattle.integers.proofs.Kit.{◌≡◌, ◌∙◌, pos, neg_ℤ, ◌-ℤ◌, arith, w64, to_z, of_z, to_z-of_z, to_z_pos}
use lib.IntN.{+ℤ_idl}
use Rattle.integers.proofs.Words.{answer}
use Rattle.plans.specs.Prices.{fallen}
use Rattle.pricing.proofs.fallen.Goals as goal

pub returns-then-lower-least : goal.returns-then-lower-least
unfolding fallen
returns-then-lower-least c =
    let (limit, (k, _)) = c.requires in
    let limit-is : to_z w64 c.args.limit ≡ pos c.args.limit = to_z_pos w64 {n = c.args.limit} (omega arith) in
    let k-is : to_z w64 c.args.k ≡ pos c.args.k = to_z_pos w64 {n = c.args.k} (omega arith) in
    let least : to_z w64 (of_z w64 c.minus-least.result) ≡ neg_ℤ (pos c.args.limit)
    = answer c.minus-least.type_inv (c.minus-least.ensures ∙ rw limit-is (+ℤ_idl _)) in
    let lower : to_z w64 (of_z w64 c.minus-lower.result) ≡ c.args.x -ℤ pos c.args.k
    = answer c.minus-lower.type_inv (c.minus-lower.ensures ∙ rw (to_z-of_z c.ranges.x, k-is)) in
    least ∙ rw (rw (lower, least) at c.if-lower-least.true)

pub returns : goal.returns
unfolding fallen
returns c =
    let (limit, (k, _)) = c.requires in
    let limit-is : to_z w64 c.args.limit ≡ pos c.args.limit = to_z_pos w64 {n = c.args.limit} (omega arith) in
    let k-is : to_z w64 c.args.k ≡ pos c.args.k = to_z_pos w64 {n = c.args.k} (omega arith) in
    let least : to_z w64 (of_z w64 c.minus-least.result) ≡ neg_ℤ (pos c.args.limit)
    = answer c.minus-least.type_inv (c.minus-least.ensures ∙ rw limit-is (+ℤ_idl _)) in
    let lower : to_z w64 (of_z w64 c.minus-lower.result) ≡ c.args.x -ℤ pos c.args.k
    = answer c.minus-lower.type_inv (c.minus-lower.ensures ∙ rw (to_z-of_z c.ranges.x, k-is)) in
    lower ∙ rw (rw (lower, least) at c.if-lower-least.false)
