use Rattle.worths.proofs.Laws.{chosen, observed, transitions, rewards, foreseen-within, row_is}
use Rattle.worths.proofs.worths_of.Goals as goal

pub foreseen-f-requires-clause-observations_fit : goal.foreseen-f-requires-clause-observations_fit
foreseen-f-requires-clause-observations_fit c =
    let (fit, exists) = c.requires.entries_fit in observed c.requires.graph_held fit exists c.action_at-a.ensures

pub foreseen-f-requires-clause-chosen_fit : goal.foreseen-f-requires-clause-chosen_fit
foreseen-f-requires-clause-chosen_fit c =
    let (fit, exists) = c.requires.entries_fit in chosen c.requires.graph_held fit exists c.action_at-a.ensures

pub rounded-requires-clause-transitions_fit : goal.rounded-requires-clause-transitions_fit
rounded-requires-clause-transitions_fit c =
    let (fit, exists) = c.requires.entries_fit in transitions c.requires.graph_held fit exists c.action_at-a.ensures

pub rounded-requires-clause-rewards_fit : goal.rounded-requires-clause-rewards_fit
rounded-requires-clause-rewards_fit c =
    let (fit, exists) = c.requires.entries_fit in rewards c.requires.graph_held fit exists c.action_at-a.ensures

pub rounded-requires-clause-within : goal.rounded-requires-clause-within
rounded-requires-clause-within c =
    let (fit, exists) = c.requires.entries_fit in foreseen-within c.requires.graph_held fit exists c.action_at-a.ensures c.foreseen-f.ensures

pub returns : goal.returns
returns c =
    let (fit, exists) = c.requires.entries_fit in
    row_is c.requires.graph_held fit exists c.action_at-a.ensures c.foreseen-f.ensures c.rounded.ensures
