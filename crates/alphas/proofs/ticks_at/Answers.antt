use Rattle.alphas.proofs.Prelude.{◌<◌, refl, ap, ◌∙◌, arith, rules, handed, filled_none, filled_more, filled-back}
use Rattle.integers.proofs.Kit.{◌^◌, ℤ, mag}
use Rattle.integers.specs.Whole.{floor_div}
use Rattle.integers.proofs.Words.{answer, back}
use Rattle.alphas.specs.Alphas.{per_tick}
use Rattle.alphas.proofs.Words.{decimal-tells}
use Rattle.alphas.proofs.ticks_at.Goals as goal

pub loop-s-init : goal.loop-s-init
loop-s-init c = filled_none _ _ _ _ _ _ c.requires.0 c.requires.1 refl

pub returns-in_err-d : goal.returns-in_err-d
returns-in_err-d c =
    filled-back _ _ _ _ _ c.loop-s.invariant (decimal-tells c.in_err-d.ensures) (handed _ c.from_residual.ensures) (omega arith)

pub loop-s-preserved : goal.loop-s-preserved
loop-s-preserved c =
    let fit : mag c.in_ok-d.d.value < 2 ^ 63 = search rules in
    filled_more _ _ _ _ _ c.loop-s.invariant (decimal-tells c.in_ok-d.ensures)
    (answer c.floor_div.type_inv (c.floor_div.ensures ∙ ap (λ (z : ℤ). floor_div z per_tick) (back _ fit))) (omega arith)
