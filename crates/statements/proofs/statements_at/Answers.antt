use Rattle.std.proofs.lemmas.Grind.{common_steps}
use Rattle.integers.proofs.Kit.{◌≡◌, ◌-◌, ◌+◌, suc, refl, arith, length}
use Rattle.statements.specs.Statements.{statements_by}
use Rattle.statements.proofs.statements_at.Goals as goal

pub loop-w-init : goal.loop-w-init
loop-w-init c = record { inside = c.requires.0; same = (length c.args.file.now + 1, (omega arith, refl)) }

pub returns-in_err-at : goal.returns-in_err-at
unfolding statements_by
returns-in_err-at c =
    let left = c.loop-w.invariant in
    let (fuel, (enough, same)) = left.same in
    let more : fuel ≡ suc (fuel - 1) = omega arith in
    let w = c.in-Some.ensures.within left.inside in
    grind (arith, common_steps)

pub loop-w-preserved : goal.loop-w-preserved
unfolding statements_by
loop-w-preserved c =
    let left = c.loop-w.invariant in
    let (fuel, (enough, same)) = left.same in
    let more : fuel ≡ suc (fuel - 1) = omega arith in
    let w = c.in-Some.ensures.within left.inside in
    let read = c.in_ok-at.ensures in
    record { inside = omega (arith, read.onward); same = (fuel - 1, (omega (arith, w.lies, read.onward), grind (arith, common_steps))) }

pub returns : goal.returns
unfolding statements_by
returns c =
    let left = c.loop-w.invariant in
    let (fuel, (enough, same)) = left.same in
    let more : fuel ≡ suc (fuel - 1) = omega arith in
    let w = c.in_default.ensures.within left.inside in
    grind (arith, common_steps)
