use Rattle.integers.proofs.Kit.{ℕ, ◌≤◌, ◌<◌, ◌+◌, ◌*◌, ◌≡◌, sym, arith, length, List, paste}
use Rattle.integers.proofs.Lists.{Pasting, pasting-start, pasting-part}
use Rattle.tables.specs.Storage.{transition_in}
use Rattle.columns.specs.Columns.{cells_of, column_of, cells_before, begins, list_of}
use Rattle.columns.proofs.Columns.{length_before, before-shorter, before_at, begins-within, list_length}
use Rattle.columns.proofs.Steps.{column-stored}
use Rattle.columns.proofs.put_cells.Goals as goal

-- the cells of a column are put behind those of the columns before it
more : (n m : ℕ) (T : ℕ → ℕ → ℕ → ℕ) (xs ys : List ℕ) (c : ℕ) {zs : List ℕ} {at : ℕ} → c < m * n → length (list_of n m T) ≤ length xs → at ≡ begins n m T c
    → (let column = cells_of n (column_of n T c) in zs ≡ paste ys at column (length column))
    → Pasting (m * n + 1) (length (cells_before n T c)) (cells_before n T (m * n)) xs ys
    → Pasting (m * n + 1) (length (cells_before n T (c + 1))) (cells_before n T (m * n)) xs zs
more n m T xs ys c l room place put p =
    let column = cells_of n (column_of n T c) in
    let in_all = before-shorter n T (c + 1) (m * n) (omega arith) in
    rw (length_before n T c, put, place) (pasting-part (m * n + 1) (length (cells_before n T c)) (cells_before n T (m * n)) xs ys column 0 (length column)
    (omega arith) (omega (arith, in_all, length_before n T c)) (omega (arith, in_all, length_before n T c, list_length n T m, room))
    (λ i b. sym (before_at n T c (m * n) l i b)) p)

pub loop-c-init : goal.loop-c-init
unfolding cells_before
loop-c-init c = (omega arith, pasting-start _ _ _)

pub put_column-at-requires-clause-a_in_bounds : goal.put_column-at-requires-clause-a_in_bounds
put_column-at-requires-clause-a_in_bounds c = column-stored c.requires.table_fits c.loop-c.c c.loop-c-test.true

pub put_column-at-requires-clause-to_in_bounds : goal.put_column-at-requires-clause-to_in_bounds
put_column-at-requires-clause-to_in_bounds c =
    let a = c.args in
    let within = begins-within a.n (transition_in a.n a.cells.now) a.m c.loop-c.c c.loop-c-test.true in
    rw c.loop-c.invariant.0 (omega (arith, within, c.requires.cells_in_bounds, c.loop-c.invariant.1.long))

pub loop-c-preserved : goal.loop-c-preserved
loop-c-preserved c =
    let a = c.args in
    let l = c.loop-c in
    let T = transition_in a.n a.cells.now in (
      omega (arith, c.put_column-at.ensures.value, length_before a.n T l.c),
      more a.n a.m T a.list.now l.list l.c c.loop-c-test.true c.requires.cells_in_bounds l.invariant.0 c.put_column-at.ensures.list_after l.invariant.1,
    )
