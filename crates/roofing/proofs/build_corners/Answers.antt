use Rattle.roofing.proofs.Prelude.{◌≡◌, sym, arith, pos, laid_none, laid-turn, least-said}
use Rattle.roofing.proofs.build_corners.Goals as goal

pub loop-s-init : goal.loop-s-init
loop-s-init c = λ L is. sym (laid_none _ _)

pub loop-s-preserved : goal.loop-s-preserved
loop-s-preserved c = λ L is.
    laid-turn _ _ _ (pos 0) (c.loop-s.invariant L is)
    (least-said c.at_corner-backups.ensures c.requires.roof.valid.some_actions L is c.least_of.type_inv c.least_of.ensures) (omega arith)

pub returns : goal.returns
returns c L is = let e : c.loop-s.s ≡ c.args.c.states = omega arith in rw e at (c.loop-s.invariant L is)
