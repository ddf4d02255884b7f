use Rattle.written.proofs.Prelude.{◌<◌, ℕ, List, arith, parts_to, row_text, table_text, cell_in, parts_none, parts-room, parts_more, parts-end}
use Rattle.written.proofs.put_table.Goals as goal

-- a block
part : ℕ → ℕ → ℕ → List ℕ → ℕ → List ℕ
part key n w cells a = parts_to n (λ s. row_text key a s w (cell_in n w cells a s))

pub loop-a-init : goal.loop-a-init
loop-a-init c = parts_none _

pub put_block-next-requires-clause-has_room : goal.put_block-next-requires-clause-has_room
unfolding part table_text
put_block-next-requires-clause-has_room c =
    let a = c.args in
    let l = c.loop-a in
    let below : l.a < a.m = omega arith in
    parts-room a.m (part a.key a.n a.w a.cells.now) l.a below c.requires.has_room l.invariant

pub loop-a-preserved : goal.loop-a-preserved
unfolding part table_text
loop-a-preserved c =
    let a = c.args in
    let l = c.loop-a in
    let below : l.a < a.m = omega arith in
    parts_more a.m (part a.key a.n a.w a.cells.now) l.a below c.requires.has_room l.invariant c.put_block-next.ensures

pub returns : goal.returns
unfolding part table_text
returns c = let a = c.args in parts-end a.m (part a.key a.n a.w a.cells.now) c.loop-a.a (omega arith) c.loop-a.invariant
