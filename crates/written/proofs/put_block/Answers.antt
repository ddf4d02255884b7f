use Rattle.written.proofs.Prelude.{◌≡◌, ◌∙◌, ◌≤◌, ◌<◌, ◌+◌, ◌*◌, ℕ, List, ap, length, get_or, subst, subst⁻¹, arith, row_text, cell_in, HasRoom, Wrote}
use Rattle.written.proofs.Prelude.{parts_none, parts-room, parts_more}
use Rattle.integers.proofs.Lists.{row_below, cell_below}
use Rattle.tables.specs.Storage.{row_start, row_place}
use Rattle.written.proofs.put_block.Goals as goal

-- a row of a block that is stored
row_in : (n w a s : ℕ) {size : ℕ} → s < n → (a + 1) * n * w ≤ size → (a * n + s) * w + w ≤ size
row_in n w a s l long =
    omega (arith, long, row_below (a * n + s) ((a + 1) * n) w (cell_below a (a + 1) s n (let h : a < a + 1 = omega arith in h) l))

-- a row
part : ℕ → ℕ → ℕ → ℕ → List ℕ → ℕ → List ℕ
part key a n w cells s = row_text key a s w (cell_in n w cells a s)

-- the row that lies from a place on
row_from : ℕ → ℕ → ℕ → List ℕ → ℕ → ℕ → List ℕ
row_from key a w cells s from = row_text key a s w (λ x. get_or cells (from + x) 0)

-- where it lies
place : (n w a s : ℕ) {row from : ℕ} → row ≡ row_place n a s → from ≡ row_start w row → from ≡ row_start w (row_place n a s)
place n w a s e f = f ∙ ap (row_start w) e

pub loop-s-init : goal.loop-s-init
loop-s-init c = parts_none _

pub put_row-next-requires-clause-w_in_bounds : goal.put_row-next-requires-clause-w_in_bounds
put_row-next-requires-clause-w_in_bounds c =
    let a = c.args in
    let l = c.loop-s in
    let below : l.s < a.n = omega arith in
    subst⁻¹ (λ (k : ℕ). k + a.w ≤ length a.cells.now) (place a.n a.w a.a l.s c.row.ensures.0 c.start-from.ensures)
    (row_in a.n a.w a.a l.s below c.requires.a_in_bounds)

pub put_row-next-requires-clause-has_room : goal.put_row-next-requires-clause-has_room
unfolding part row_from
put_row-next-requires-clause-has_room c =
    let a = c.args in
    let l = c.loop-s in
    let below : l.s < a.n = omega arith in
    subst⁻¹ (λ (k : ℕ). HasRoom l.next (row_from a.key a.a a.w a.cells.now l.s k) l.out)
    (place a.n a.w a.a l.s c.row.ensures.0 c.start-from.ensures)
    (parts-room a.n (part a.key a.a a.n a.w a.cells.now) l.s below c.requires.has_room l.invariant)

pub loop-s-preserved : goal.loop-s-preserved
unfolding part row_from
loop-s-preserved c =
    let a = c.args in
    let l = c.loop-s in
    let below : l.s < a.n = omega arith in
    parts_more a.n (part a.key a.a a.n a.w a.cells.now) l.s below c.requires.has_room l.invariant
    (subst (λ (k : ℕ). Wrote l.next (row_from a.key a.a a.w a.cells.now l.s k) l.out c.put_row-next.result c.put_row-next.new.out)
    (place a.n a.w a.a l.s c.row.ensures.0 c.start-from.ensures) c.put_row-next.ensures)
