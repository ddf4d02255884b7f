use Rattle.levels.proofs.Prelude.{◌≡◌, ◌∙◌, refl, sym, arith, lt-ltb, le-ltb, first-none, first_more, first-here, passed, failed}
use Rattle.refusals.proofs.Refusals.{refused-before}
use Rattle.levels.specs.Judged.{numbers_in}
use Rattle.levels.proofs.Laws.{fine_before}
use Rattle.levels.proofs.shape.numbers_exist.Goals as goal

pub vectors-init : goal.vectors-init
vectors-init c = (refl, first-none _)

pub loop-o-init : goal.loop-o-init
loop-o-init c = (c.vectors.invariant.0, first-none _)

pub loop-o-preserved : goal.loop-o-preserved
loop-o-preserved c = (
  c.loop-o.invariant.0,
  first_more _ _ c.loop-o.invariant.1 (passed _ _ (lt-ltb _ _ (rw c.choice_at-chosen.ensures at c.if-standing-chosen.false))),
)

pub vectors-preserved : goal.vectors-preserved
vectors-preserved c =
    let e : c.loop-o.o ≡ c.args.k = omega arith in (
      c.loop-o.invariant.0,
      first_more _ _ c.vectors.invariant.1
          (fine_before (passed _ _ (lt-ltb _ _ (rw c.action.ensures at c.if-m-action.false))) (rw e at c.loop-o.invariant.1)),
    )

pub returns-after-vectors : goal.returns-after-vectors
unfolding numbers_in
returns-after-vectors c =
    let e : c.vectors.v ≡ c.args.vectors = omega arith in
    c.vectors.invariant.0 ∙ sym (rw e at c.vectors.invariant.1)

pub returns-then-m-action : goal.returns-then-m-action
unfolding numbers_in
returns-then-m-action c =
    sym (first-here _ _ c.vectors.v (omega arith) c.vectors.invariant.1
    (refused-before _ (failed _ _ (le-ltb _ _ (rw c.action.ensures at c.if-m-action.true)))))

pub returns-then-standing-chosen : goal.returns-then-standing-chosen
unfolding numbers_in
returns-then-standing-chosen c =
    sym (first-here _ _ c.vectors.v (omega arith) c.vectors.invariant.1
    (fine_before (passed _ _ (lt-ltb _ _ (rw c.action.ensures at c.if-m-action.false)))
    (first-here _ _ c.loop-o.o (omega arith) c.loop-o.invariant.1
    (failed _ _ (le-ltb _ _ (rw c.choice_at-chosen.ensures at c.if-standing-chosen.true))))))
