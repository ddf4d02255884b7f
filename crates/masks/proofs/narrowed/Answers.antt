use Rattle.integers.proofs.Kit.{◌≡◌, ◌∙◌, sym, ◌-◌, ◌^◌, arith}
use lib.Bits.{and_mask}
use Rattle.masks.proofs.Bits.{mask-all, mask_narrowed}
use Rattle.masks.proofs.narrowed.Goals as goal

pub returns : goal.returns
returns c =
    let a = c.args in
    let ones : c.all.result ≡ 2 ^ a.n - 1 = omega (arith, c.all.ensures, mask-all a.n) in
    rw ones (and_mask a.mask a.n ∙ sym (mask_narrowed a.n a.mask))
