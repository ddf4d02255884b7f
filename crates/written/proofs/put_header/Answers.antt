use Rattle.written.proofs.Prelude.{refl, ◌++◌, room-first, room-then, wrote_then, line, header_text}
use Rattle.written.proofs.Lines.{values_line, states_line, actions_line, observations_line}
use Rattle.written.proofs.put_header.Goals as goal

pub put_fixed_line-x-requires : goal.put_fixed_line-x-requires
unfolding header_text
put_fixed_line-x-requires c =
    let k = c.args.c in (refl, room-first (values_line ++ (states_line k ++ (actions_line k ++ observations_line k))) c.requires)

pub put-y-requires : goal.put-y-requires
unfolding header_text line
put-y-requires c =
    let k = c.args.c in room-first (states_line k ++ (actions_line k ++ observations_line k)) (room-then c.requires c.put_fixed_line-x.ensures)

pub put_whole_line-z-requires : goal.put_whole_line-z-requires
unfolding header_text line
put_whole_line-z-requires c =
    let k = c.args.c in
    room-first (actions_line k ++ observations_line k) (room-then (room-then c.requires c.put_fixed_line-x.ensures) c.put-y.ensures)

pub put_whole_line-w-requires : goal.put_whole_line-w-requires
unfolding header_text line
put_whole_line-w-requires c =
    let states = room-then (room-then c.requires c.put_fixed_line-x.ensures) c.put-y.ensures in
    room-first (observations_line c.args.c) (room-then states c.put_whole_line-z.ensures)

pub put_whole_line-requires : goal.put_whole_line-requires
unfolding header_text line
put_whole_line-requires c =
    let states = room-then (room-then c.requires c.put_fixed_line-x.ensures) c.put-y.ensures in
    room-then (room-then states c.put_whole_line-z.ensures) c.put_whole_line-w.ensures

pub returns : goal.returns
unfolding header_text line
returns c =
    let values = room-then c.requires c.put_fixed_line-x.ensures in
    let states = room-then values c.put-y.ensures in
    let actions = room-then states c.put_whole_line-z.ensures in
    wrote_then c.requires c.put_fixed_line-x.ensures (wrote_then values c.put-y.ensures (wrote_then states c.put_whole_line-z.ensures
    (wrote_then actions c.put_whole_line-w.ensures c.put_whole_line.ensures)))
