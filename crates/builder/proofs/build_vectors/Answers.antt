use Rattle.builder.proofs.Prelude.{arith, point_in}
use Rattle.integers.proofs.Sums.{total-cong}
use Rattle.builder.proofs.Levels.{seed-light, Made, vector-made, filled_none, RowsRoom, rows-room, filled_more}
use Rattle.builder.proofs.build_vectors.Invariants.{W}
use Rattle.builder.proofs.build_vectors.Goals as goal
use Rattle.builder.proofs.build_vectors.Goals.{After-best_candidate-best}

-- the best candidate is the turn's vector of the built level
made : (c : After-best_candidate-best) → let a = c.args in
    Made a.c.states a.c.observations (W a.c a.transition.now a.observation.now a.reward.now a.covered.now a.standing.now
    a.weights.now a.vectors a.points) c.loop-v.v c.best_candidate-best.result
made c =
    let a = c.args in
    vector-made a.points (point_in a.c.states a.weights.now) c.loop-v.v c.seed_weights-p.result c.requires.upon c.seed_weights-p.ensures
    c.best_candidate-best.ensures

-- there is room for its rows
room : (c : After-best_candidate-best) → let l = c.loop-v in RowsRoom c.args.c.states c.args.c.observations l.v l.actions l.choices l.masks l.entries
room c = rows-room _ _ _ c.requires.rows_fit c.loop-v.invariant c.loop-v-test.true

pub loop-v-init : goal.loop-v-init
loop-v-init c = filled_none _ _ _

pub best_candidate-best-requires-clause-light : goal.best_candidate-best-requires-clause-light
best_candidate-best-requires-clause-light c =
    let a = c.args in
    let r = c.requires in
    record {
      long = omega arith;
      light = rw (total-cong a.c.states _ _ c.seed_weights-p.ensures)
          (seed-light a.c.states a.points (point_in a.c.states a.weights.now) r.by_index c.loop-v.v c.loop-v-test.true);
    }

pub number-requires : goal.number-requires
number-requires c = (made (goal.at.number-requires c).After-best_candidate-best).action_in

pub paste-requires : goal.paste-requires
paste-requires c =
    let b = (goal.at.paste-requires c).After-best_candidate-best in
    (rw c.start.ensures (room b).choices_fit, omega (arith, (made b).chosen-long, c.requires.upon.valid.few_observations))

pub paste-requires-in-loop-v : goal.paste-requires-in-loop-v
paste-requires-in-loop-v c =
    let b = (goal.at.paste-requires-in-loop-v c).After-best_candidate-best in
    (rw c.start-in-loop-v.ensures (room b).entries_fit, omega (arith, (made b).entries_long, c.requires.upon.valid.few_states))

pub loop-v-preserved : goal.loop-v-preserved
loop-v-preserved c =
    let r = c.requires in
    filled_more _ _ _ r.rows_fit c.loop-v.invariant c.loop-v-test.true (made (goal.at.loop-v-preserved c).After-best_candidate-best)
    r.upon.valid.few_observations r.upon.valid.few_states c.number.ensures c.all-all.ensures
    (rw c.start.ensures at c.paste.ensures) (rw c.start-in-loop-v.ensures at c.paste-in-loop-v.ensures)
