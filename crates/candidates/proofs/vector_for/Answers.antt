use Rattle.integers.proofs.Lists.{filled_within}
use Rattle.tables.specs.Limits.{max_states}
use Rattle.sums.specs.Steps.{foreseen_in, ChosenFit}
use Rattle.sums.proofs.Regroup.{foreseen-limit}
use Rattle.backups.proofs.Roofs.{moved-below}
use Rattle.candidates.proofs.Candidates.{chosen-fit, candidate-made}
use Rattle.candidates.proofs.vector_for.Goals as goal
use Rattle.candidates.proofs.vector_for.Goals.{After-choose-chosen}

pub choose-chosen-requires-clause-below : goal.choose-chosen-requires-clause-below
choose-chosen-requires-clause-below c =
    moved-below c.requires.states_le_max_states.0 c.requires.below c.requires.engine_fits.0.transitions c.moved-u.ensures

-- the vectors chosen are within the limits
chosen-within : (c : After-choose-chosen) → let a = c.args in
    ChosenFit a.c.states a.c.observations a.masks.now a.entries.now c.choose-chosen.result 0
chosen-within c =
    let a = c.args in
    chosen-fit a.c.states a.c.observations a.observation.now c.moved-u.result a.masks.now a.entries.now a.count a.a.0
    c.choose-chosen.ensures c.requires.states_le_max_states.1.0 c.requires.states_nonzero.1 c.requires.masked_fit

pub foreseen-f-requires-clause-chosen_fit : goal.foreseen-f-requires-clause-chosen_fit
foreseen-f-requires-clause-chosen_fit c = chosen-within (goal.at.foreseen-f-requires-clause-chosen_fit c).After-choose-chosen

pub backups-b-requires-clause-within : goal.backups-b-requires-clause-within
backups-b-requires-clause-within c =
    let a = c.args in
    let (states, (observations, _)) = c.requires.states_le_max_states in
    let within = chosen-within (goal.at.backups-b-requires-clause-within c).After-choose-chosen in
    filled_within max_states (foreseen_in a.c.states a.c.observations a.observation.now a.masks.now a.entries.now c.choose-chosen.result 0 a.a.0)
    c.foreseen-f.ensures states (λ s l. foreseen-limit c.requires.engine_fits.1.0 within observations l)

pub returns : goal.returns
returns c =
    let a = c.args in
    candidate-made a.c a.a.0 a.transition.now a.observation.now a.p.now a.reward.now a.masks.now a.entries.now a.count
    c.moved-u.ensures c.choose-chosen.ensures c.foreseen-f.ensures c.backups-b.ensures c.floored-e.ensures
