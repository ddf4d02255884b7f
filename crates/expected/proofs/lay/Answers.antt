use Rattle.expected.proofs.Prelude.{◌≡◌, ◌∙◌, ◌*◌, ap, sym, arith, one, answer}
use Rattle.integers.proofs.Kit.{ℤ, pos}
use Rattle.integers.specs.Whole.{floor_div}
use Rattle.integers.specs.Cells.{laid_rows}
use Rattle.integers.proofs.Lists.{laid_none, laid-turn}
use Rattle.expected.proofs.lay.Goals as goal

pub loop-i-init : goal.loop-i-init
loop-i-init c = sym (laid_none _ _)

pub loop-i-preserved : goal.loop-i-preserved
loop-i-preserved c =
    laid-turn _ _ _ (pos 0) c.loop-i.invariant
    (answer c.floor_div.type_inv
    (c.floor_div.ensures ∙ ap (λ (z : ℤ). floor_div z (one * one)) (answer c.millionths-x.type_inv c.millionths-x.ensures)))
    (omega (arith, c.requires.states_in_bounds))

pub returns : goal.returns
unfolding laid_rows
returns c =
    let a = c.args.c in
    let e : c.loop-i.i ≡ a.actions * a.states = omega arith in
    rw e at c.loop-i.invariant
