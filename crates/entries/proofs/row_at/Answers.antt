use Rattle.std.proofs.lemmas.Grind.{common_steps}
use Rattle.integers.proofs.Kit.{◌≡◌, ◌+◌, ◌-◌, suc, arith}
use Rattle.entries.specs.Entries.{row}
use Rattle.entries.proofs.row_at.Goals as goal

pub loop-x-preserved : goal.loop-x-preserved
unfolding row
loop-x-preserved c =
    let next = c.in_ok-p.ensures.onward in
    let more : c.args.w - c.loop-x.x ≡ suc (c.args.w - (c.loop-x.x + 1)) = omega arith in
    record { inside = omega (arith, next); on = omega (arith, next); same = grind (arith, common_steps, more) }
