use Rattle.rows.proofs.Prelude.{◌∙◌, refl, ap, answer}
use Rattle.integers.proofs.Kit.{ℤ}
use Rattle.integers.specs.Whole.{◌·◌, ceil_div}
use Rattle.tables.specs.Limits.{K}
use Rattle.rows.proofs.Stepped.{moves-below, now-fits, parts-fit, informed-made}
use Rattle.rows.proofs.informed_at.Goals as goal

pub moves-u-requires-clause-transitions_fit : goal.moves-u-requires-clause-transitions_fit
moves-u-requires-clause-transitions_fit c = c.requires.ready.transitions _ c.requires.a_lt_actions.0

pub scaled-now-requires-clause-a_bound : goal.scaled-now-requires-clause-a_bound
unfolding K
scaled-now-requires-clause-a_bound c =
    let (action, state) = c.requires.a_lt_actions in
    rw (answer c.reward_at.type_inv c.reward_at.ensures) (now-fits (c.requires.ready.rewards _ action) state)

pub ahead-later-requires-clause-below : goal.ahead-later-requires-clause-below
ahead-later-requires-clause-below c =
    let h = c.requires.ready in
    let (action, state) = c.requires.a_lt_actions in
    moves-below h.few_states (h.transitions _ action) state c.moves-u.ensures

pub ahead-later-requires-clause-observations_fit : goal.ahead-later-requires-clause-observations_fit
ahead-later-requires-clause-observations_fit c = c.requires.seen.observations _ c.requires.a_lt_actions.0

pub add_scaled-requires-clause-a_bound : goal.add_scaled-requires-clause-a_bound
unfolding K
add_scaled-requires-clause-a_bound c =
    let h = c.requires.ready in
    let g = c.requires.seen in
    let (action, state) = c.requires.a_lt_actions in
    parts-fit h.few_states (moves-below h.few_states (h.transitions _ action) state c.moves-u.ensures) (g.observations _ action) h.rows_fit
    h.some_actions g.few_observations (h.rewards _ action) state h.discount_limit
    (answer c.scaled-now.type_inv (c.scaled-now.ensures ∙ rw (answer c.reward_at.type_inv c.reward_at.ensures) refl))
    (answer c.ahead-later.type_inv c.ahead-later.ensures)

pub returns : goal.returns
unfolding K
returns c =
    let a = c.args in
    answer c.ceil_div.type_inv (c.ceil_div.ensures ∙ ap (λ (z : ℤ). ceil_div z K) (answer c.add_scaled.type_inv c.add_scaled.ensures)
    ∙ rw (answer c.scaled-now.type_inv (c.scaled-now.ensures ∙ ap (λ (z : ℤ). K · z) (answer c.reward_at.type_inv c.reward_at.ensures)))
    (informed-made a.c a.transition.now a.observation.now a.reward.now a.rows.now a.a.0 a.s.0 c.requires.ready.some_actions c.moves-u.ensures
    (answer c.ahead-later.type_inv c.ahead-later.ensures)))
