use Rattle.solved.proofs.Prelude.{ap, ◌∙◌, get_or, pos, padded-cong, max_states}
use Rattle.integers.proofs.Kit.{ℤ}
use Rattle.integers.specs.Whole.{lesser}
use Rattle.sums.proofs.Regroup.{transitions-fit, observations-fit}
use Rattle.solved.proofs.Vectors.{chosen-fit, foreseen-within, backed-is}
use Rattle.solved.proofs.entries_of.Goals as goal

pub foreseen-f-requires-clause-observations_fit : goal.foreseen-f-requires-clause-observations_fit
foreseen-f-requires-clause-observations_fit c =
    let a = c.args in
    let u = c.requires.upon in
    observations-fit a.c a.transition.now a.observation.now a.reward.now u.valid u.stored a.a.0 c.requires.a_lt_actions.0

pub foreseen-f-requires-clause-chosen_fit : goal.foreseen-f-requires-clause-chosen_fit
foreseen-f-requires-clause-chosen_fit c = chosen-fit c.requires.upon c.args.chosen.now c.requires.a_lt_actions.1 c.requires.by_index

pub rounded-backed-requires-clause-transitions_fit : goal.rounded-backed-requires-clause-transitions_fit
rounded-backed-requires-clause-transitions_fit c =
    let a = c.args in
    let u = c.requires.upon in
    transitions-fit a.c a.transition.now a.observation.now a.reward.now u.valid u.stored a.a.0 c.requires.a_lt_actions.0

pub rounded-backed-requires-clause-within : goal.rounded-backed-requires-clause-within
rounded-backed-requires-clause-within c =
    let r = c.requires in
    foreseen-within r.upon c.args.chosen.now r.a_lt_actions.1 r.by_index c.args.a.0 r.a_lt_actions.0 c.foreseen-f.ensures

pub returns : goal.returns
returns c =
    let a = c.args in
    c.lesser_each.ensures ∙ padded-cong (pos 0) max_states a.c.states _ _ (λ s l. ap (λ (z : ℤ). lesser (get_or a.ticks s (pos 0)) z)
    (backed-is a.c a.transition.now a.observation.now a.reward.now a.masks.now a.entries.now a.standing a.chosen.now
    a.a.0 c.foreseen-f.ensures c.rounded-backed.ensures s l))
