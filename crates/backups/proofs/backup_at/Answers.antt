use Rattle.backups.proofs.Prelude.{◌≡◌, ◌∙◌, w64, to_z, of_z, sum_to, padded, answer, max_states, ceiling_in, ahead_at}
use Rattle.integers.specs.Whole.{◌·◌}
use Rattle.tables.specs.Limits.{K}
use Rattle.sums.specs.Steps.{moved_in, expected_in}
use Rattle.backups.specs.Steps.{backup_at_in}
use Rattle.backups.proofs.Roofs.{moved-below, expected-fits, parts-fit}
use Rattle.backups.proofs.backup_at.Goals as goal
use Rattle.backups.proofs.backup_at.Goals.{After-scaled-now, After-ceilings-ahead}

pub scaled-now-requires-clause-a_bound : goal.scaled-now-requires-clause-a_bound
unfolding K
scaled-now-requires-clause-a_bound c =
    expected-fits c.requires.states_le_max_states.0 c.requires.below c.requires.engine_fits.1.1
    (answer c.expected_reward.type_inv c.expected_reward.ensures)

pub ceilings-ahead-requires-clause-below : goal.ceilings-ahead-requires-clause-below
ceilings-ahead-requires-clause-below c =
    moved-below c.requires.states_le_max_states.0 c.requires.below c.requires.engine_fits.0.transitions c.moved-u.ensures

-- K × the expected reward
now : (c : After-scaled-now)
    → to_z w64 (of_z w64 c.scaled-now.result) ≡ K · expected_in c.args.c.states c.args.reward.now c.args.p.now c.args.a.0
unfolding K
now c = answer c.scaled-now.type_inv (c.scaled-now.ensures ∙ rw (answer c.expected_reward.type_inv c.expected_reward.ensures))

-- the sum of the ceilings
ahead : (c : After-ceilings-ahead) → let a = c.args in
    to_z w64 (of_z w64 c.ceilings-ahead.result) ≡ sum_to a.c.observations (ahead_at a.c.states a.c.observations a.observation.now
    (padded 0 max_states a.c.states (moved_in a.c.states a.transition.now a.p.now a.a.0))
    (ceiling_in a.c.states a.corners.now a.weights.now a.gains.now a.points) a.a.0)
ahead c = answer c.ceilings-ahead.type_inv (c.ceilings-ahead.ensures ∙ rw c.moved-u.ensures)

pub add_scaled-requires-clause-a_bound : goal.add_scaled-requires-clause-a_bound
add_scaled-requires-clause-a_bound c =
    let (states, (_, (_, discount))) = c.requires.states_le_max_states in
    let (_, (_, rewards)) = c.requires.engine_fits in
    parts-fit states c.requires.below rewards discount c.requires.roof_fits (now (goal.at.add_scaled-requires-clause-a_bound c).After-scaled-now)
    (ahead c)

pub returns : goal.returns
unfolding backup_at_in
returns c =
    let known = goal.at.returns c in
    answer c.add_scaled.type_inv (c.add_scaled.ensures ∙ rw (now known.After-scaled-now, ahead known.After-ceilings-ahead))
