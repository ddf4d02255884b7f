use Rattle.digits.proofs.Prelude.{◌∷◌, ◌++◌, room-first, room-then, wrote_then}
use Rattle.digits.specs.Digits.{whole, opening}
use Rattle.digits.proofs.put_opening.Goals as goal

pub put-x-requires : goal.put-x-requires
unfolding opening
put-x-requires c = room-first (whole c.args.a ++ (32 ∷ 58 ∷ 32 ∷ whole c.args.s)) c.requires

pub put_whole-y-requires : goal.put_whole-y-requires
unfolding opening
put_whole-y-requires c = room-first (32 ∷ 58 ∷ 32 ∷ whole c.args.s) (room-then c.requires c.put-x.ensures)

pub put-z-requires : goal.put-z-requires
unfolding opening
put-z-requires c = room-first (whole c.args.s) (room-then (room-then c.requires c.put-x.ensures) c.put_whole-y.ensures)

pub put_whole-requires : goal.put_whole-requires
unfolding opening
put_whole-requires c = room-then (room-then (room-then c.requires c.put-x.ensures) c.put_whole-y.ensures) c.put-z.ensures

pub returns : goal.returns
unfolding opening
returns c =
    let action = room-then c.requires c.put-x.ensures in
    wrote_then c.requires c.put-x.ensures
    (wrote_then action c.put_whole-y.ensures (wrote_then (room-then action c.put_whole-y.ensures) c.put-z.ensures c.put_whole.ensures))
