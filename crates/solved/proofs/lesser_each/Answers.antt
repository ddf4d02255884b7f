use Rattle.solved.proofs.Prelude.{arith, rules, sym, ◌∙◌, get_or, pos}
use Rattle.integers.proofs.Kit.{refl, w64, SFits, to_z-of_z}
use Rattle.integers.proofs.Lists.{padded-none, padded-turn}
use Rattle.integers.proofs.Words.{answer}
use Rattle.solved.proofs.lesser_each.Goals as goal

pub loop-s-init : goal.loop-s-init
loop-s-init c = sym (padded-none _ _ _)

pub loop-s-preserved : goal.loop-s-preserved
loop-s-preserved c =
    let tick : SFits w64 (get_or c.args.ticks c.loop-s.s (pos 0)) = search rules in
    let entry : SFits w64 (get_or c.args.backed c.loop-s.s (pos 0)) = search rules in
    padded-turn _ _ _ _ c.loop-s.invariant (answer c.lesser.type_inv (c.lesser.ensures ∙ rw (to_z-of_z tick, to_z-of_z entry) refl)) (omega arith)
