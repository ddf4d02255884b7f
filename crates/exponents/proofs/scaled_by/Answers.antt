use Rattle.exponents.proofs.Prelude.{ℕ, ◌≡◌, arith}
use Prim.Native.Nat.{◌^◌, ◌<◌}
use Rattle.numerals.proofs.Laws.{power-some}
use Rattle.exponents.proofs.scaled_by.Goals as goal

power-positive : {u : ℕ} (p : ℕ) → u ≡ 10 ^ p → 0 < u
power-positive p e = omega (arith, e, power-some p)

pub nonzero_rem-v : goal.nonzero_rem-v
nonzero_rem-v c = power-positive _ c.scale-u.ensures

pub nonzero_div-result : goal.nonzero_div-result
nonzero_div-result c = power-positive _ c.scale-u.ensures
