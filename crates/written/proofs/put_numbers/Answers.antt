use Rattle.written.proofs.Prelude.{◌≡◌, ◌∙◌, ◌+◌, ◌-◌, ◌≤◌, ◌<◌, ℕ, List, subst, subst⁻¹, get_or, length, arith}
use Rattle.written.proofs.Prelude.{spaced, fixed, HasRoom, Wrote, parts_none, parts-room, parts_more}
use lib.ListN.{take, drop, length-take, length-drop}
use lib.Seq.{get_or-take, get_or-drop}
use Rattle.written.proofs.put_numbers.Goals as goal

-- the cells that are written: how many they are, and one of them
module _ (cells : List ℕ) (from w : ℕ) where
  few : from + w ≤ length cells → length (take (from + w - from) (drop from cells)) ≡ w
  few h = omega (arith, length-take (from + w - from) (drop from cells), length-drop from cells)

  cell : (x : ℕ) → x < w → get_or (take (from + w - from) (drop from cells)) x 0 ≡ get_or cells (from + x) 0
  cell x h = get_or-take (from + w - from) (drop from cells) x 0 (omega arith) ∙ get_or-drop from cells x 0

-- a cell's number
part : List ℕ → ℕ → ℕ → ℕ → List ℕ
part cells places from x = spaced (fixed places (get_or cells (from + x) 0))

pub loop-cell-init : goal.loop-cell-init
loop-cell-init c = parts_none _

pub put_number-next-requires : goal.put_number-next-requires
unfolding part
put_number-next-requires c =
    let a = c.args in
    let l = c.loop-cell in
    let x = l.cell-index in
    let below : x < a.w = omega (arith, few a.cells.now a.from a.w c.requires.unit_value.1) in (
      c.requires.unit_value.0,
      subst⁻¹ (λ (v : ℕ). HasRoom l.next (spaced (fixed a.places v)) l.out) (c.wide.ensures ∙ cell a.cells.now a.from a.w x below)
          (parts-room a.w (part a.cells.now a.places a.from) x below c.requires.has_room l.invariant),
    )

pub loop-cell-preserved : goal.loop-cell-preserved
unfolding part
loop-cell-preserved c =
    let a = c.args in
    let l = c.loop-cell in
    let x = l.cell-index in
    let below : x < a.w = omega (arith, few a.cells.now a.from a.w c.requires.unit_value.1) in
    parts_more a.w (part a.cells.now a.places a.from) x below c.requires.has_room l.invariant
    (subst (λ (v : ℕ). Wrote l.next (spaced (fixed a.places v)) l.out c.put_number-next.result c.put_number-next.new.out)
    (c.wide.ensures ∙ cell a.cells.now a.from a.w x below) c.put_number-next.ensures)
