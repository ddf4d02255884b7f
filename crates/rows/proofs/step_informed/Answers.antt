use Rattle.rows.proofs.Prelude.{◌*◌, ◌≡◌, sym, arith, pos, answer}
use Rattle.integers.specs.Cells.{laid_rows}
use Rattle.integers.proofs.Lists.{laid_none, laid-turn}
use Rattle.rows.proofs.step_informed.Goals as goal

pub loop-i-init : goal.loop-i-init
loop-i-init c = sym (laid_none _ _)

pub loop-i-preserved : goal.loop-i-preserved
loop-i-preserved c = laid-turn _ _ _ (pos 0) c.loop-i.invariant (answer c.informed_at.type_inv c.informed_at.ensures) (omega arith)

pub returns : goal.returns
unfolding laid_rows
returns c =
    let a = c.args.c in
    let e : c.loop-i.i ≡ a.actions * a.states = omega arith in
    rw e at c.loop-i.invariant
