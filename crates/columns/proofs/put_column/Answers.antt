use Rattle.integers.proofs.Kit.{ℕ, ◌≤◌, ◌<◌, ◌+◌, ◌≡◌, ◌∙◌, sym, ap, arith, length, set, List}
use Rattle.integers.proofs.Lists.{Pasting, pasting-start, pasting-more}
use Rattle.tables.specs.Storage.{transition_in}
use Rattle.columns.specs.Columns.{cell, cells_of}
use Rattle.columns.proofs.Columns.{cells-none, length_some, cells_at, cells-below}
use Rattle.columns.proofs.put_column.Goals as goal
use Rattle.columns.proofs.put_column.Goals.{then-p-gt0, else-p-gt0}

-- the cell of a state with T above 0 is put behind those of the states before it
more : (t : ℕ → ℕ) (at s n : ℕ) (xs ys : List ℕ) {next w p : ℕ} → s < n → 0 < t s → at + length (cells_of n t) ≤ length xs
    → next ≡ at + length (cells_of s t) → p ≡ t s → w ≡ cell s p → Pasting at (length (cells_of s t)) (cells_of n t) xs ys
    → Pasting at (length (cells_of (s + 1) t)) (cells_of n t) xs (set ys next w)
more t at s n xs ys l h room place chance value so_far =
    rw (length_some t s h, place) (pasting-more at (length (cells_of s t)) (cells_of n t) xs ys 0 (omega (arith, room, cells-below t s n l h))
    (cells-below t s n l h) (value ∙ ap (cell s) chance ∙ sym (cells_at t s n l h)) so_far)

pub loop-s-init : goal.loop-s-init
unfolding cells_of
loop-s-init c = (omega arith, pasting-start _ _ _)

pub bounds-list-next : goal.bounds-list-next
bounds-list-next c =
    let a = c.args in
    let t : ℕ → ℕ = λ s. transition_in a.n a.cells.now s a.a.0 a.to.0 in
    let below = cells-below t c.loop-s.s a.n c.loop-s-test.true (rw c.transition_at-p.ensures at c.if-p-gt0.true) in
    omega (arith, c.loop-s.invariant.1.long, c.requires.to_in_bounds, below)

pub offset_bounds-list-next : goal.offset_bounds-list-next
offset_bounds-list-next c =
    let a = c.args in
    let t : ℕ → ℕ = λ s. transition_in a.n a.cells.now s a.a.0 a.to.0 in
    let below = cells-below t c.loop-s.s a.n c.loop-s-test.true (rw c.transition_at-p.ensures at c.if-p-gt0.true) in
    omega (arith, c.loop-s.invariant.1.long, c.requires.to_in_bounds, below)

pub overflow_add-next : goal.overflow_add-next
overflow_add-next c =
    let a = c.args in
    let t : ℕ → ℕ = λ s. transition_in a.n a.cells.now s a.a.0 a.to.0 in
    let below = cells-below t c.loop-s.s a.n c.loop-s-test.true (rw c.transition_at-p.ensures at c.if-p-gt0.true) in
    omega (arith, c.requires.to_in_bounds, below)

pub loop-s-preserved : goal.loop-s-preserved
loop-s-preserved c =
    let a = c.args in
    let t : ℕ → ℕ = λ s. transition_in a.n a.cells.now s a.a.0 a.to.0 in
    let s = c.loop-s.s in
    let l = c.loop-s in
    let here = c.transition_at-p.ensures in
    elim c.if-p-gt0.branch [
      | then-p-gt0 w ↦
          let h : 0 < t s = rw here at w.if-p-gt0.true in (
            omega (arith, length_some t s h),
            rw w.list-is (more t a.at s a.n a.list.now l.list c.loop-s-test.true h c.requires.to_in_bounds l.invariant.0 here w.cell.ensures l.invariant.1),
          )
      | else-p-gt0 w ↦
          let e = cells-none t s (omega (arith, here, w.if-p-gt0.false)) in (
            omega (arith, ap length e),
            rw (e, w.list-is) l.invariant.1,
          )
    ]
