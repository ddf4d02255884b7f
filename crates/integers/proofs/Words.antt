-- Whole numbers in the machine's 64 bits. A signed local of the code is known by its bits; `back` turns them into the number. Assumes nothing.
use Rattle.integers.proofs.Kit.{◌≡◌, ◌∙◌, ℕ, ◌<◌, ◌^◌, arith, ℤ, pos, nat_abs, negsuc, mag, w64, to_z, of_z, SFits, to_z-of_z}

abs_mag : (z : ℤ) {H : ℕ} → nat_abs z < H → mag z < H
abs_mag (pos n) h = h
abs_mag (negsuc n) h = omega arith

pub fits : (z : ℤ) → nat_abs z < 2 ^ 63 → SFits w64 z
fits z h = record { sfits = abs_mag z h }

-- of a call's result, `back c.CALL.result c.CALL.ok`; of an element read, `back _ c.PLACE.given`
pub back : (z : ℤ) → mag z < 2 ^ 63 → to_z w64 (of_z w64 z) ≡ z
back z h = to_z-of_z {w = w64} (record { sfits = h })

pub back-small : (z : ℤ) → nat_abs z < 2 ^ 63 → to_z w64 (of_z w64 z) ≡ z
back-small z h = back z (abs_mag z h)

-- what a call answers, from its bits: `answer c.CALL.ok c.CALL.ensures`
pub answer : {z y : ℤ} → mag z < 2 ^ 63 → z ≡ y → to_z w64 (of_z w64 z) ≡ y
answer {z} h e = back z h ∙ e
