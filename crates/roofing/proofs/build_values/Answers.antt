use Rattle.roofing.proofs.Prelude.{◌≡◌, sym, arith, pos, laid_none, laid-turn, least-said}
use Rattle.roofing.proofs.build_values.Goals as goal

pub loop-i-init : goal.loop-i-init
loop-i-init c = λ L is. sym (laid_none _ _)

pub loop-i-preserved : goal.loop-i-preserved
loop-i-preserved c = λ L is.
    laid-turn _ _ _ (pos 0) (c.loop-i.invariant L is)
    (least-said c.at_point-backups.ensures c.requires.roof.valid.some_actions L is c.least_of.type_inv c.least_of.ensures) (omega arith)

pub returns : goal.returns
returns c L is = let e : c.loop-i.i ≡ c.args.count = omega arith in rw e at (c.loop-i.invariant L is)
