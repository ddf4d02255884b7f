use Rattle.integers.proofs.Kit.{ℕ, ◌<◌, ◌+◌, ◌*◌, ◌≡◌, ◌∙◌, refl, sym, ap, arith, length, get_or, List, Bool, ◌&&◌, eqb}
use Rattle.integers.specs.Search.{every}
use Rattle.integers.proofs.Searches.{every-none, every-cong, every-add, every-short, and_is}
use Rattle.tables.specs.Storage.{transition_in}
use Rattle.columns.specs.Columns.{cells_of, column_of, cells_before, begins}
use Rattle.columns.proofs.Columns.{same, length_before, before-shorter, before_at, begins-more, begins-within}
use Rattle.columns.proofs.Steps.{begins-few, column-stored}
use Rattle.columns.proofs.cells_hold.Goals as goal

-- the cells before the next column are those before a column and its own
module _ (n m : ℕ) (T : ℕ → ℕ → ℕ → ℕ) (list : List ℕ) (c : ℕ) (l : c < m * n) where
  abbrev column : List ℕ
  column = cells_of n (column_of n T c)

  abbrev all : ℕ → Bool
  all = same list (m * n + 1) (cells_before n T (m * n))

  more : {at : ℕ} {here : Bool} → at ≡ begins n m T c → here ≡ every (length column) (same list at column)
      → every (length (cells_before n T (c + 1))) all ≡ (every (length (cells_before n T c)) all && here)
  more e f =
      ap (λ (k : ℕ). every k all) (length_before n T c)
      ∙ every-add (length (cells_before n T c)) (length column) all
      ∙ ap (λ (b : Bool). every (length (cells_before n T c)) all && b) (every-cong (length column) _ _ (λ i h.
      rw (before_at n T c (m * n) l i h, e) (ap (λ (k : ℕ). eqb (get_or list k 0) (get_or column i 0)) (omega arith))) ∙ sym f)

pub loop-c-init : goal.loop-c-init
unfolding cells_before
loop-c-init c = (omega arith, every-none _)

pub column_holds-requires-clause-a_in_bounds : goal.column_holds-requires-clause-a_in_bounds
column_holds-requires-clause-a_in_bounds c = column-stored c.requires.table_fits c.loop-c.c c.loop-c-test.true

pub column_holds-requires-clause-to_in_bounds : goal.column_holds-requires-clause-to_in_bounds
column_holds-requires-clause-to_in_bounds c =
    let a = c.args in
    let within = begins-within a.n (transition_in a.n a.cells.now) a.m c.loop-c.c c.loop-c-test.true in
    rw c.loop-c.invariant.0 (omega (arith, within, c.requires.cells_in_bounds))

pub returns-then-not-column_holds : goal.returns-then-not-column_holds
returns-then-not-column_holds c =
    let a = c.args in
    let T = transition_in a.n a.cells.now in
    let up = before-shorter a.n T (c.loop-c.c + 1) (a.m * a.n) (omega arith) in
    let next = more a.n a.m T a.list.now c.loop-c.c c.loop-c-test.true c.loop-c.invariant.0 c.column_holds.ensures in
    sym (every-short _ _ _ up (next ∙ rw (c.loop-c.invariant.1, c.if-not-column_holds.true) refl))

pub count-at-requires-clause-a_in_bounds : goal.count-at-requires-clause-a_in_bounds
count-at-requires-clause-a_in_bounds c = column-stored c.requires.table_fits c.loop-c.c c.loop-c-test.true

pub overflow_add-at-in-loop-c : goal.overflow_add-at-in-loop-c
overflow_add-at-in-loop-c c =
    let a = c.args in
    let behind = begins-more a.n (transition_in a.n a.cells.now) a.m c.loop-c.c c.loop-c.invariant.0 c.count-at.ensures in
    omega (arith, behind, begins-few c.requires.table_fits (c.loop-c.c + 1) (omega arith))

pub loop-c-preserved : goal.loop-c-preserved
loop-c-preserved c =
    let a = c.args in
    let T = transition_in a.n a.cells.now in (
      begins-more a.n T a.m c.loop-c.c c.loop-c.invariant.0 c.count-at.ensures,
      more a.n a.m T a.list.now c.loop-c.c c.loop-c-test.true c.loop-c.invariant.0 c.column_holds.ensures
          ∙ and_is c.loop-c.invariant.1 c.if-not-column_holds.false,
    )
