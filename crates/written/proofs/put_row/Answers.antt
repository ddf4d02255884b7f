use Rattle.written.proofs.Prelude.{refl, ◌++◌, newline, numbers, row_text, room-first, room-then, wrote_then}
use Rattle.written.proofs.put_row.Goals as goal

pub put_opening-x-requires : goal.put_opening-x-requires
unfolding row_text
put_opening-x-requires c = room-first (numbers 3 c.args.cells.now c.args.from c.args.w ++ newline) c.requires.has_room

pub put_numbers-y-requires : goal.put_numbers-y-requires
unfolding row_text
put_numbers-y-requires c = record {
  unit_value = (refl, c.requires.w_in_bounds);
  has_room = room-first newline (room-then c.requires.has_room c.put_opening-x.ensures);
}

pub put-requires : goal.put-requires
unfolding row_text
put-requires c = room-then (room-then c.requires.has_room c.put_opening-x.ensures) c.put_numbers-y.ensures

pub returns : goal.returns
unfolding row_text
returns c =
    let a = c.args in
    wrote_then c.requires.has_room c.put_opening-x.ensures
    (wrote_then {t = numbers 3 a.cells.now a.from a.w} (room-then c.requires.has_room c.put_opening-x.ensures) c.put_numbers-y.ensures c.put.ensures)
