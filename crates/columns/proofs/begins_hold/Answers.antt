use Rattle.integers.proofs.Kit.{ℕ, ◌+◌, ◌*◌, ◌≡◌, ◌∙◌, refl, sym, ap, arith, get_or, Bool, true, eqb, eq-eqb, ne_eqb, add-one}
use Rattle.integers.specs.Search.{every}
use Rattle.integers.proofs.Searches.{every-none, every_more, every-not}
use Rattle.tables.specs.Storage.{transition_in}
use Rattle.columns.specs.Columns.{cells_before, begins}
use Rattle.columns.proofs.Columns.{begins-more}
use Rattle.columns.proofs.Steps.{begins-few}
use Rattle.columns.proofs.begins_hold.Invariants.{says}
use Rattle.columns.proofs.begins_hold.Goals as goal

-- where all words before the last are right, the last decides
decides : (k : ℕ) (p : ℕ → Bool) → every k p ≡ true → p k ≡ every (k + 1) p
unfolding every
decides k p e = rw (add-one, e) refl

pub loop-c-init : goal.loop-c-init
unfolding cells_before
loop-c-init c = (omega arith, every-none _)

pub word-requires : goal.word-requires
word-requires c = rw c.loop-c.invariant.0 (begins-few c.requires.table_fits c.loop-c.c (omega arith))

pub returns-then-list-c : goal.returns-then-list-c
returns-then-list-c c =
    let a = c.args in
    sym (every-not (a.m * a.n + 1) (says a.n a.m a.cells.now a.list.now) c.loop-c.c (omega arith)
    (ne_eqb _ _ (λ e. c.if-list-c.true (e ∙ sym (c.word.ensures ∙ c.loop-c.invariant.0)))))

pub overflow_add-at-in-loop-c : goal.overflow_add-at-in-loop-c
overflow_add-at-in-loop-c c =
    let a = c.args in
    let behind = begins-more a.n (transition_in a.n a.cells.now) a.m c.loop-c.c c.loop-c.invariant.0 c.count-at.ensures in
    omega (arith, behind, begins-few c.requires.table_fits (c.loop-c.c + 1) (omega arith))

pub loop-c-preserved : goal.loop-c-preserved
loop-c-preserved c =
    let a = c.args in (
      begins-more a.n (transition_in a.n a.cells.now) a.m c.loop-c.c c.loop-c.invariant.0 c.count-at.ensures,
      every_more c.loop-c.c _ c.loop-c.invariant.1 (eq-eqb _ _ (c.if-list-c.false ∙ c.word.ensures ∙ c.loop-c.invariant.0)),
    )

pub word-requires-2 : goal.word-requires-2
word-requires-2 c = rw c.loop-c.invariant.0 (begins-few c.requires.table_fits c.loop-c.c (omega arith))

pub returns : goal.returns
returns c =
    let a = c.args in
    let e : c.loop-c.c ≡ a.m * a.n = omega arith in
    let holds : ℕ → Bool = says a.n a.m a.cells.now a.list.now in
    ap (eqb (get_or a.list.now (a.m * a.n) 0))
    (c.word-2.ensures ∙ c.loop-c.invariant.0 ∙ ap (begins a.n a.m (transition_in a.n a.cells.now)) e) ∙ decides (a.m * a.n) holds
    (ap (λ (k : ℕ). every k holds) (sym e) ∙ c.loop-c.invariant.1)
