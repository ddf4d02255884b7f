use Rattle.written.proofs.Prelude.{refl, ◌++◌, List, ℕ, subst, subst⁻¹, newline, spaced, signed_fixed, opening, reward_text, HasRoom, Wrote, room-first}
use Rattle.written.proofs.Prelude.{room-then, wrote_then}
use Rattle.integers.proofs.Kit.{ℤ, w64, to_z, of_z, to_z-of_z, SFits}
use Rattle.written.specs.Text.{any_outcome}
use Rattle.written.proofs.put_reward.Goals as goal

-- the number and the line's end, behind the outcomes
abbrev amount : ℤ → List ℕ
amount v = signed_fixed 2 v ++ newline

-- room for all, of the machine's word
room : (a s : ℕ) (v : ℤ) {at : ℕ} {xs : List ℕ} → SFits w64 v → HasRoom at (reward_text a s v) xs
    → HasRoom at (opening 82 a s ++ (any_outcome ++ spaced (amount (to_z w64 (of_z w64 v))))) xs
unfolding reward_text
room a s v {at = at} {xs = xs} fit h =
    subst⁻¹ (λ (z : ℤ). HasRoom at (opening 82 a s ++ (any_outcome ++ spaced (amount z))) xs) (to_z-of_z fit) h

pub put_opening-x-requires : goal.put_opening-x-requires
put_opening-x-requires c =
    let a = c.args in room-first (any_outcome ++ spaced (amount (to_z w64 (of_z w64 a.v)))) (room a.a a.s a.v c.ranges.v c.requires)

pub put-y-requires : goal.put-y-requires
put-y-requires c =
    let a = c.args in
    room-first (amount (to_z w64 (of_z w64 a.v))) (room-then (room a.a a.s a.v c.ranges.v c.requires) c.put_opening-x.ensures)

pub put_signed_fixed-z-requires : goal.put_signed_fixed-z-requires
put_signed_fixed-z-requires c =
    let a = c.args in
    (refl, room-first newline (room-then (room-then (room a.a a.s a.v c.ranges.v c.requires) c.put_opening-x.ensures) c.put-y.ensures))

pub put-requires : goal.put-requires
put-requires c =
    let a = c.args in
    room-then (room-then (room-then (room a.a a.s a.v c.ranges.v c.requires) c.put_opening-x.ensures) c.put-y.ensures) c.put_signed_fixed-z.ensures

pub returns : goal.returns
unfolding reward_text
returns c =
    let a = c.args in
    let r = room a.a a.s a.v c.ranges.v c.requires in
    let outcome = room-then r c.put_opening-x.ensures in
    let number = room-then outcome c.put-y.ensures in
    subst (λ (z : ℤ). Wrote a.at (opening 82 a.a a.s ++ (any_outcome ++ spaced (amount z))) a.out.now c.put.result c.put.new.out) (to_z-of_z c.ranges.v)
    (wrote_then r c.put_opening-x.ensures (wrote_then outcome c.put-y.ensures (wrote_then number c.put_signed_fixed-z.ensures c.put.ensures)))
