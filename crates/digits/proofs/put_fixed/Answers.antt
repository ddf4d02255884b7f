use Rattle.digits.proofs.Prelude.{◌≡◌, ◌∷◌, ◌++◌, List, ℕ, ◌/◌, ◌%◌, ◌^◌, subst, subst⁻¹, HasRoom, Wrote, room-first, room-then, wrote_then}
use Rattle.digits.specs.Digits.{last_digits, whole, fixed}
use Rattle.digits.proofs.Powers.{some-unit}
use Rattle.digits.proofs.put_fixed.Goals as goal

-- the whole part, and the decimals behind the point
same_parts : {unit : ℕ} (places v : ℕ) → unit ≡ 10 ^ places → fixed places v ≡ whole (v / unit) ++ (46 ∷ last_digits places (v % unit))
unfolding fixed
same_parts places v e = rw e

-- room for both
room : {unit : ℕ} (places v : ℕ) {at : ℕ} {xs : List ℕ} → unit ≡ 10 ^ places → HasRoom at (fixed places v) xs
    → HasRoom at (whole (v / unit) ++ (46 ∷ last_digits places (v % unit))) xs
room places v {at = at} {xs = xs} e h = subst (λ (t : List ℕ). HasRoom at t xs) (same_parts places v e) h

pub nonzero_div-v : goal.nonzero_div-v
nonzero_div-v c = some-unit c.args.places c.requires.0

pub put_whole-x-requires : goal.put_whole-x-requires
put_whole-x-requires c = room-first _ (room c.args.places c.args.v c.requires.0 c.requires.1)

pub put-y-requires : goal.put-y-requires
put-y-requires c =
    room-first (last_digits c.args.places (c.args.v % c.args.unit)) (room-then (room c.args.places c.args.v c.requires.0 c.requires.1) c.put_whole-x.ensures)

pub nonzero_rem-v : goal.nonzero_rem-v
nonzero_rem-v c = some-unit c.args.places c.requires.0

pub put_last_digits-requires : goal.put_last_digits-requires
put_last_digits-requires c = room-then (room-then (room c.args.places c.args.v c.requires.0 c.requires.1) c.put_whole-x.ensures) c.put-y.ensures

pub returns : goal.returns
returns c =
    let r = room c.args.places c.args.v c.requires.0 c.requires.1 in
    subst⁻¹ (λ (t : List ℕ). Wrote c.args.at t c.args.out.now c.put_last_digits.result c.put_last_digits.new.out)
    (same_parts c.args.places c.args.v c.requires.0)
    (wrote_then r c.put_whole-x.ensures (wrote_then (room-then r c.put_whole-x.ensures) c.put-y.ensures c.put_last_digits.ensures))
