use Rattle.backups.proofs.Prelude.{◌≡◌, ◌∙◌, sym, w64, to_z, of_z, answer, ceiling_in, ahead_at}
use Rattle.integers.proofs.Sums.{sum-none, sum_step}
use Rattle.backups.proofs.Roofs.{ahead-below, ahead-fits}
use Rattle.backups.proofs.ceilings.Goals as goal

pub loop-o-init : goal.loop-o-init
loop-o-init c = sym (sum-none _)

pub ceiling-requires-clause-below : goal.ceiling-requires-clause-below
ceiling-requires-clause-below c =
    ahead-below c.requires.ahead c.loop-o.o c.loop-o-test.true c.successors-q.ensures c.requires.n_le_max_states.0

pub plus-sum-requires : goal.plus-sum-requires
plus-sum-requires c =
    ahead-fits c.requires.ahead _ c.loop-o-test.true c.loop-o.invariant
    (answer c.ceiling.type_inv (c.ceiling.ensures ∙ rw c.successors-q.ensures))

pub loop-o-preserved : goal.loop-o-preserved
loop-o-preserved c =
    let a = c.args in
    let roof = ceiling_in a.n a.corners.now a.weights.now a.gains.now a.points in
    let here : to_z w64 (of_z w64 c.ceiling.result) ≡ ahead_at a.n a.k a.observation.now a.u.now roof a.a.0 c.loop-o.o
    = answer c.ceiling.type_inv (c.ceiling.ensures ∙ rw c.successors-q.ensures) in
    answer c.plus-sum.type_inv (c.plus-sum.ensures ∙ rw here (sum_step _ _ c.loop-o.invariant))
