use Rattle.digits.proofs.Prelude.{[], ◌∷◌, ◌++◌, room-first, room-then, wrote_then}
use Rattle.digits.specs.Digits.{fixed, line}
use Rattle.digits.proofs.put_fixed_line.Goals as goal

pub put-x-requires : goal.put-x-requires
unfolding line
put-x-requires c = room-first (58 ∷ 32 ∷ fixed c.args.places c.args.v ++ (10 ∷ [])) c.requires.1

pub put-y-requires : goal.put-y-requires
unfolding line
put-y-requires c = room-first (fixed c.args.places c.args.v ++ (10 ∷ [])) (room-then c.requires.1 c.put-x.ensures)

pub put_fixed-z-requires : goal.put_fixed-z-requires
unfolding line
put_fixed-z-requires c = (c.requires.0, room-first (10 ∷ []) (room-then (room-then c.requires.1 c.put-x.ensures) c.put-y.ensures))

pub put-requires : goal.put-requires
unfolding line
put-requires c = room-then (room-then (room-then c.requires.1 c.put-x.ensures) c.put-y.ensures) c.put_fixed-z.ensures

pub returns : goal.returns
unfolding line
returns c =
    let colon = room-then c.requires.1 c.put-x.ensures in
    let number = room-then colon c.put-y.ensures in
    wrote_then c.requires.1 c.put-x.ensures (wrote_then colon c.put-y.ensures (wrote_then number c.put_fixed-z.ensures c.put.ensures))
