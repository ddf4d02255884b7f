use Rattle.bounds.proofs.Prelude.{sym}
use Rattle.bounds.proofs.Bounds.{mixed, widened-below}
use Rattle.bounds.proofs.answer.Goals as goal

-- what 17 said
pub bounds_at-requires-clause-below : goal.bounds_at-requires-clause-below
bounds_at-requires-clause-below c =
    let a = c.args in
    rw c.point_weights-q.ensures (widened-below c.requires.few_states (mixed a.n a.mixture.now (sym c.if-not-mixture_holds.ensures)))
