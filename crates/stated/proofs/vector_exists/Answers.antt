use Rattle.stated.proofs.Prelude.{ℕ, ◌≡◌, ◌∙◌, sym, List, arith, get_or, first-none, first_more, first-here}
use Rattle.integers.proofs.Kit.{◌+◌, ◌*◌, ap, lt-ltb, le-ltb}
use Rattle.tables.specs.Storage.{choice_in}
use Rattle.refusals.proofs.Refusals.{breaks, passes}
use Rattle.levels.proofs.Laws.{passed, failed}
use Rattle.stated.proofs.vector_exists.Goals as goal

-- what the first row chooses
chosen_is : (k : ℕ) (chosen : List ℕ) (o : ℕ) → choice_in k chosen 0 o ≡ get_or chosen o 0
chosen_is k chosen o = let e : 0 * k + o ≡ o = omega arith in ap (λ (i : ℕ). get_or chosen i 0) e

pub loop-o-init : goal.loop-o-init
loop-o-init c = first-none _

pub returns-then-m-a : goal.returns-then-m-a
returns-then-m-a c = breaks _ (le-ltb _ _ c.if-m-a.true)

pub returns-then-standing-next : goal.returns-then-standing-next
returns-then-standing-next c =
    let next_is = c.choice_at-next.ensures ∙ chosen_is c.args.k c.args.chosen.now c.loop-o.o in
    passes 10 _ (lt-ltb _ _ c.if-m-a.false)
    (sym (first-here _ _ c.loop-o.o c.loop-o-test.true c.loop-o.invariant (failed _ _ (le-ltb _ _ (rw next_is at c.if-standing-next.true)))))

pub loop-o-preserved : goal.loop-o-preserved
loop-o-preserved c =
    let next_is = c.choice_at-next.ensures ∙ chosen_is c.args.k c.args.chosen.now c.loop-o.o in
    first_more _ _ c.loop-o.invariant (passed _ _ (lt-ltb _ _ (rw next_is at c.if-standing-next.false)))

pub returns : goal.returns
returns c =
    let e : c.loop-o.o ≡ c.args.k = omega arith in
    passes 10 _ (lt-ltb _ _ c.if-m-a.false) (sym (rw e at c.loop-o.invariant))
