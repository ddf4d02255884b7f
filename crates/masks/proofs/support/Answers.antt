use Rattle.integers.proofs.Kit.{◌≤◌, ◌^◌, suc, sym, arith, lt-ltb, le-ltb}
use native.Mathlib.Nat.{pow-suc}
use lib.Pow.{pow_mono}
use Rattle.masks.proofs.Bits.{mask-none, mask-with, mask-without, mask_below}
use Rattle.masks.proofs.support.Invariants.{weighed}
use Rattle.masks.proofs.support.Goals as goal

pub loop-s-init : goal.loop-s-init
loop-s-init c = sym (mask-none _)

-- the mask so far is below that of the next state alone
pub overflow_add-states : goal.overflow_add-states
overflow_add-states c =
    let s = c.loop-s.s in
    let few : 2 ^ suc s ≤ 2 ^ 64 = pow_mono {j = 64} (omega arith) in
    omega (arith, c.only-states.ensures, c.loop-s.invariant, mask_below s (weighed c.args.q.now), few, pow-suc 2 s)

pub loop-s-preserved : goal.loop-s-preserved
loop-s-preserved c =
    let f = weighed c.args.q.now in
    let with = mask-with c.loop-s.s f c.loop-s.invariant in
    let without = mask-without c.loop-s.s f c.loop-s.invariant in
    grind (arith, with, without, lt-ltb, le-ltb)
