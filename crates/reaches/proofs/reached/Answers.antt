use Rattle.integers.proofs.Kit.{◌≡◌, refl, sym, ◌∙◌, false, arith, add-one, lt-ltb, le-ltb}
use Rattle.integers.specs.Search.{some}
use Rattle.integers.proofs.Searches.{some_at, and_is, and-false}
use Rattle.masks.specs.Masks.{covered}
use Rattle.reaches.proofs.reached.Invariants.{from}
use Rattle.reaches.proofs.reached.Goals as goal
use Rattle.reaches.proofs.reached.Goals.{then-covers+else-transition_at-gt0, else-covers}

pub loop-s-init : goal.loop-s-init
unfolding some
loop-s-init c = refl

pub returns-then-transition_at-gt0 : goal.returns-then-transition_at-gt0
returns-then-transition_at-gt0 c =
    sym (some_at _ _ c.loop-s.s (omega arith)
    (and_is (sym c.if-covers.ensures) (lt-ltb _ _ (rw c.transition_at.ensures at c.if-transition_at-gt0.true))))

pub loop-s-preserved : goal.loop-s-preserved
unfolding some
loop-s-preserved c =
    let a = c.args in
    -- the state is not in the mask, or does not reach it
    let not_here : from a.transition.now a.n a.mask a.a.0 a.to.0 c.loop-s.s ≡ false =
    elim c.if-covers.branch [
      | then-covers+else-transition_at-gt0 w ↦
          and-false (covered a.mask c.loop-s.s) _ (le-ltb _ _ (rw w.transition_at.ensures at w.if-transition_at-gt0.false))
      | else-covers w ↦ rw (sym c.covers.ensures ∙ w.if-covers.false) refl
    ] in
    rw (add-one, c.loop-s.invariant, not_here) refl
