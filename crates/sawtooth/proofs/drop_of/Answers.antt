use Rattle.sawtooth.proofs.Prelude.{◌≡◌, ◌∙◌, sym, arith}
use Rattle.sawtooth.proofs.Laws.{least-taken, least-left, least-none, least-drop}
use Rattle.sawtooth.proofs.drop_of.Goals as goal
use Rattle.sawtooth.proofs.drop_of.Goals.{then-cross, else-cross}

pub loop-s-preserved : goal.loop-s-preserved
loop-s-preserved c =
    let so_far = c.loop-s.invariant in
    let weight = c.from-p.ensures in
    elim c.if-cross.branch [
      | then-cross w ↦ least-taken _ _ so_far (rw (c.cross.ensures, c.cross-in-loop-s.ensures, weight) at w.if-cross.true) w.top-is (w.under-is ∙ weight)
      | else-cross w ↦ least-left _ _ so_far (rw (c.cross.ensures, c.cross-in-loop-s.ensures, weight) at w.if-cross.false) w.top-is w.under-is
    ]

pub returns-then-under-eq0 : goal.returns-then-under-eq0
returns-then-under-eq0 c =
    let e : c.loop-s.s ≡ c.args.n = omega arith in
    sym (least-none _ _ c.args.gain (rw e at c.loop-s.invariant) c.if-under-eq0.true)

pub returns : goal.returns
returns c =
    let e : c.loop-s.s ≡ c.args.n = omega arith in
    rw c.reach.ensures (sym (least-drop _ _ c.args.gain (rw e at c.loop-s.invariant) c.if-under-eq0.false))
