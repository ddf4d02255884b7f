use Rattle.integers.proofs.Kit.{ℕ, ◌<◌, ◌+◌, ◌≡◌, ◌∙◌, sym, ap, arith, length, get_or, List, true, false, eq-eqb, ne_eqb}
use Rattle.integers.specs.Search.{every}
use Rattle.integers.proofs.Searches.{every-none, every_more, every-not}
use Rattle.tables.specs.Storage.{transition_in}
use Rattle.columns.specs.Columns.{cell, cells_of}
use Rattle.columns.proofs.Columns.{same, cells-none, length_some, cells_at, cells-below}
use Rattle.columns.proofs.column_holds.Goals as goal
use Rattle.columns.proofs.column_holds.Goals.{then-p-gt0+else-list-next, else-p-gt0}

module _ (t : ℕ → ℕ) (list : List ℕ) (at s n : ℕ) (l : s < n) (h : 0 < t s) where
  -- the word for a state with T above 0 is its cell
  more : every (length (cells_of s t)) (same list at (cells_of n t)) ≡ true → get_or list (at + length (cells_of s t)) 0 ≡ cell s (t s)
      → every (length (cells_of (s + 1) t)) (same list at (cells_of n t)) ≡ true
  more so_far e =
      ap (λ (k : ℕ). every k (same list at (cells_of n t))) (length_some t s h)
      ∙ every_more (length (cells_of s t)) _ so_far (eq-eqb _ _ (e ∙ sym (cells_at t s n l h)))

  -- or is not
  other : (get_or list (at + length (cells_of s t)) 0 ≡ cell s (t s) → ⊥) → every (length (cells_of n t)) (same list at (cells_of n t)) ≡ false
  other d = every-not (length (cells_of n t)) _ (length (cells_of s t)) (cells-below t s n l h) (ne_eqb _ _ (λ e. d (e ∙ cells_at t s n l h)))

pub loop-s-init : goal.loop-s-init
unfolding cells_of
loop-s-init c = (omega arith, every-none _)

pub bounds-list-next : goal.bounds-list-next
bounds-list-next c =
    let a = c.args in
    let t : ℕ → ℕ = λ s. transition_in a.n a.cells.now s a.a.0 a.to.0 in
    let below = cells-below t c.loop-s.s a.n c.loop-s-test.true (rw c.transition_at-p.ensures at c.if-p-gt0.true) in
    omega (arith, c.requires.to_in_bounds, below)

pub offset_bounds-list-next : goal.offset_bounds-list-next
offset_bounds-list-next c =
    let a = c.args in
    let t : ℕ → ℕ = λ s. transition_in a.n a.cells.now s a.a.0 a.to.0 in
    let below = cells-below t c.loop-s.s a.n c.loop-s-test.true (rw c.transition_at-p.ensures at c.if-p-gt0.true) in
    omega (arith, c.requires.to_in_bounds, below)

pub returns-then-list-next : goal.returns-then-list-next
returns-then-list-next c =
    let a = c.args in
    let t : ℕ → ℕ = λ s. transition_in a.n a.cells.now s a.a.0 a.to.0 in
    sym (other t a.list.now a.at c.loop-s.s a.n c.loop-s-test.true (rw c.transition_at-p.ensures at c.if-p-gt0.true) (λ e. c.if-list-next.true cc))

pub loop-s-preserved : goal.loop-s-preserved
loop-s-preserved c =
    let a = c.args in
    let t : ℕ → ℕ = λ s. transition_in a.n a.cells.now s a.a.0 a.to.0 in
    let s = c.loop-s.s in
    let here = c.transition_at-p.ensures in
    elim c.if-p-gt0.branch [
      | then-p-gt0+else-list-next w ↦
          let h : 0 < t s = rw here at w.if-p-gt0.true in (
            omega (arith, length_some t s h),
            more t a.list.now a.at s a.n c.loop-s-test.true h c.loop-s.invariant.1 cc,
          )
      | else-p-gt0 w ↦
          let e = cells-none t s (omega (arith, here, w.if-p-gt0.false)) in (
            omega (arith, ap length e),
            ap (λ (l : List ℕ). every (length l) (same a.list.now a.at (cells_of a.n t))) e ∙ c.loop-s.invariant.1,
          )
    ]
