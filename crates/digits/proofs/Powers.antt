-- What a power of ten is. Assumes nothing.
use Rattle.integers.proofs.Kit.{ℕ, ◌≡◌, ◌<◌, ◌≤◌, ◌^◌, arith}
use native.Mathlib.Nat.{pow-le-pow_right, pow-zero}

pub some-unit : {unit : ℕ} (places : ℕ) → unit ≡ 10 ^ places → 0 < unit
some-unit p e =
    let least : 10 ^ 0 ≤ 10 ^ p = pow-le-pow_right {n = 10} (omega arith) {i = 0} {j = p} (omega arith) in
    omega (arith, e, pow-zero 10, least)
