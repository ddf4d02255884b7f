use Rattle.solved.proofs.Prelude.{◌∙◌, pos, padded-cong, max_states}
use Rattle.tables.specs.Storage.{model_in}
use Rattle.candidates.specs.Steps.{upon_in}
use Rattle.stated.proofs.Choices.{chosen-said}
use Rattle.solved.specs.Solved.{solved}
use Rattle.solved.proofs.Vectors.{entry-said}
use Rattle.solved.proofs.row_at.Goals as goal

pub entries_of-row-requires-clause-by_index : goal.entries_of-row-requires-clause-by_index
entries_of-row-requires-clause-by_index c o l =
    let r = c.requires in rw (chosen-said c.said_at-x.ensures o l) (r.solving.chooses c.args.v r.v_lt_count.0 o l)

pub returns : goal.returns
unfolding solved
returns c =
    let a = c.args in
    let says = c.said_at-x.ensures in
    record {
      action = says.action;
      chosen = says.chosen;
      entries = c.entries_of-row.ensures
          ∙ padded-cong (pos 0) max_states a.c.states _ _ (λ x l. entry-said (model_in a.c a.transition.now a.observation.now a.reward.now)
          (upon_in a.c a.standing a.masks.now a.entries.now) _ _ x (says.ticks x l) says.action (chosen-said says));
      onward = says.onward;
    }
