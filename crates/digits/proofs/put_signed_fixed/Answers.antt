use Rattle.digits.proofs.Prelude.{◌≡◌, ◌∙◌, ap, ◌∷◌, List, ℕ, arith, subst, subst⁻¹, HasRoom, Wrote, room-first, room-then, wrote_then}
use Rattle.integers.proofs.Kit.{true, false, ℤ, pos, negsuc, nat_abs, lt_z, w64, to_z, of_z, to_z-of_z, SFits}
use Rattle.integers.proofs.Parts.{lt_z-true, lt_z-false}
use Rattle.digits.specs.Digits.{fixed, signed_fixed}
use Rattle.digits.proofs.put_signed_fixed.Goals as goal

-- a minus before the size of a number below 0, and of any other its size
below : (places : ℕ) (v : ℤ) {size : ℕ} → lt_z v (pos 0) ≡ true → size ≡ nat_abs v → signed_fixed places v ≡ 45 ∷ fixed places size
unfolding signed_fixed
below places (pos v) t e = absurd (let l = lt_z-true (pos v) (pos 0) t in let no : ⊥ = omega arith in no)
below places (negsuc v) t e = rw e

other : (places : ℕ) (v : ℤ) {size : ℕ} → lt_z v (pos 0) ≡ false → size ≡ nat_abs v → signed_fixed places v ≡ fixed places size
unfolding signed_fixed
other places (pos v) t e = rw e
other places (negsuc v) t e = absurd (let l = lt_z-false (negsuc v) (pos 0) t in let no : ⊥ = omega arith in no)

-- the same from the machine's words
module _ (places : ℕ) (v : ℤ) (fit : SFits w64 v) {size : ℕ} (e : size ≡ nat_abs (to_z w64 (of_z w64 v))) where
  minus : lt_z (to_z w64 (of_z w64 v)) (pos 0) ≡ true → signed_fixed places v ≡ 45 ∷ fixed places size
  minus t = below places v (rw (to_z-of_z fit) at t) (e ∙ ap nat_abs (to_z-of_z fit))

  plain : lt_z (to_z w64 (of_z w64 v)) (pos 0) ≡ false → signed_fixed places v ≡ fixed places size
  plain t = other places v (rw (to_z-of_z fit) at t) (e ∙ ap nat_abs (to_z-of_z fit))

pub put-x-requires : goal.put-x-requires
put-x-requires c =
    let a = c.args in
    let e = minus a.places a.v c.ranges.v c.magnitude-size.ensures c.if-v-lt0.true in
    room-first (fixed a.places c.magnitude-size.result) (subst (λ (t : List ℕ). HasRoom a.at t a.out.now) e c.requires.1)

pub put_fixed-requires : goal.put_fixed-requires
put_fixed-requires c =
    let a = c.args in
    let e = minus a.places a.v c.ranges.v c.magnitude-size.ensures c.if-v-lt0.true in
    (c.requires.0, room-then (subst (λ (t : List ℕ). HasRoom a.at t a.out.now) e c.requires.1) c.put-x.ensures)

pub returns-then-v-lt0 : goal.returns-then-v-lt0
returns-then-v-lt0 c =
    let a = c.args in
    let e = minus a.places a.v c.ranges.v c.magnitude-size.ensures c.if-v-lt0.true in
    subst⁻¹ (λ (t : List ℕ). Wrote a.at t a.out.now c.put_fixed.result c.put_fixed.new.out) e
    (wrote_then (subst (λ (t : List ℕ). HasRoom a.at t a.out.now) e c.requires.1) c.put-x.ensures c.put_fixed.ensures)

pub put_fixed-requires-2 : goal.put_fixed-requires-2
put_fixed-requires-2 c =
    let a = c.args in
    (c.requires.0, subst (λ (t : List ℕ). HasRoom a.at t a.out.now) (plain a.places a.v c.ranges.v c.magnitude-size.ensures c.if-v-lt0.false) c.requires.1)

pub returns : goal.returns
returns c =
    let a = c.args in
    subst⁻¹ (λ (t : List ℕ). Wrote a.at t a.out.now c.put_fixed-2.result c.put_fixed-2.new.out)
    (plain a.places a.v c.ranges.v c.magnitude-size.ensures c.if-v-lt0.false) c.put_fixed-2.ensures
