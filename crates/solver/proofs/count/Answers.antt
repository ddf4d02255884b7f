use Rattle.std.specs.Prelude.{Ok}
use Rattle.integers.proofs.Kit.{arith}
use Rattle.grammar.proofs.Laws.{handed}
use Rattle.solver.specs.Steps.{Past, ends, stops, goes}
use Rattle.solver.proofs.count.Goals as goal

pub returns-in_err-x : goal.returns-in_err-x
returns-in_err-x g c =
    let h = c.loop-one.invariant in
    rw (handed _ c.from_residual.ensures)
    (h.whole _ (stops c.loop-one.v c.loop-one.at c.in-Some.field-0 _ (c.in-Some.ensures.within h.inside).is c.in_err-x.ensures))

pub loop-one-preserved : goal.loop-one-preserved
loop-one-preserved g c =
    let h = c.loop-one.invariant in
    let past : Past c.args.file.now c.loop-one.at (Ok c.in_ok-x.x) =
    c.requires.past c.loop-one.v c.loop-one.at (Ok c.in_ok-x.x) c.loop-one.invariant.inside c.in_ok-x.ensures in
    record {
      inside = past.1;
      few = omega (arith, past.0, h.few);
      whole = λ r k. h.whole r (goes c.loop-one.v c.loop-one.at c.in-Some.field-0 c.in_ok-x.x r (c.in-Some.ensures.within h.inside).is c.in_ok-x.ensures k);
    }

pub returns : goal.returns
returns g c =
    let h = c.loop-one.invariant in h.whole _ (ends c.loop-one.v c.loop-one.at (c.in_default.ensures.within h.inside).is)
