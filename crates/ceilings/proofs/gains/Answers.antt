use Rattle.ceilings.proofs.Prelude.{sym, arith, get_or, pos, padded-none, padded-turn}
use Rattle.integers.proofs.Words.{back-small}
use Rattle.sawtooth.proofs.Laws.{filled-below, filled-gain}
use Rattle.ceilings.proofs.gains.Goals as goal

pub loop-i-init : goal.loop-i-init
loop-i-init c = sym (padded-none _ _ _)

pub gain_of-requires-clause-below : goal.gain_of-requires-clause-below
gain_of-requires-clause-below c =
    filled-below _ c.loop-i.i _ _ c.point_weights-p.ensures c.requires.points_fit (omega arith) c.requires.n_le_max_states

pub loop-i-preserved : goal.loop-i-preserved
loop-i-preserved c =
    let same = back-small (get_or c.args.values.now c.loop-i.i (pos 0)) (omega (arith, c.requires.values_fit.value c.loop-i.i (omega arith))) in
    padded-turn _ _ _ _ c.loop-i.invariant
    (filled-gain _ _ _ _ c.point_weights-p.ensures c.args.corners.now c.args.values.now same c.gain_of.ensures) (omega arith)
