use Rattle.digits.proofs.Prelude.{[], ◌∷◌, ◌++◌, room-first, room-then, wrote_then}
use Rattle.digits.specs.Digits.{whole, line}
use Rattle.digits.proofs.put_whole_line.Goals as goal

pub put-x-requires : goal.put-x-requires
unfolding line
put-x-requires c = room-first (58 ∷ 32 ∷ whole c.args.v ++ (10 ∷ [])) c.requires

pub put-y-requires : goal.put-y-requires
unfolding line
put-y-requires c = room-first (whole c.args.v ++ (10 ∷ [])) (room-then c.requires c.put-x.ensures)

pub put_whole-z-requires : goal.put_whole-z-requires
unfolding line
put_whole-z-requires c = room-first (10 ∷ []) (room-then (room-then c.requires c.put-x.ensures) c.put-y.ensures)

pub put-requires : goal.put-requires
unfolding line
put-requires c = room-then (room-then (room-then c.requires c.put-x.ensures) c.put-y.ensures) c.put_whole-z.ensures

pub returns : goal.returns
unfolding line
returns c =
    let colon = room-then c.requires c.put-x.ensures in
    let number = room-then colon c.put-y.ensures in
    wrote_then c.requires c.put-x.ensures (wrote_then colon c.put-y.ensures (wrote_then number c.put_whole-z.ensures c.put.ensures))
