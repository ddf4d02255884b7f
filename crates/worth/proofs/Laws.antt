-- What tables and a graph that are not refused have. Assumes nothing.
use Rattle.integers.proofs.Kit.{◌≡◌, true, ℕ, leb-true, ltb-true}
use Rattle.integers.proofs.Searches.{and-true}
use Rattle.tables.specs.Tables.{Tables}
use Rattle.refusals.specs.Verdicts.{Fine}
use Rattle.tables.specs.Storage.{counts_of, model_of}
use Rattle.tables.specs.Judged.{count_within}
use Rattle.tables.proofs.Accepted.{tables-valid, tables-stored, count-true}
use Rattle.refusals.proofs.Refusals.{before-fine, unless-fine}
use Rattle.levels.proofs.Laws.{numbers-in}
use Rattle.worths.specs.Limits.{max_nodes}
use Rattle.worths.specs.Graph.{WorthAccepted}
use Rattle.worths.specs.Storage.{LentGraph, graph_of, graph_stored}
use Rattle.worths.specs.Steps.{GraphStored, GraphHeld}
use Rattle.worth.specs.Judged.{worth_verdict}

-- what `graph_stored` tests
pub graph-stored : (k : ℕ) (g : LentGraph) → graph_stored k g ≡ true → GraphStored k g.nodes g.actions g.next
graph-stored k g e = let h = and-true _ _ e in record { actions_long = leb-true _ _ h.0; next_stored = leb-true _ _ h.1 }

-- Each stage of a fine verdict is fine, so each of its tests passed. Qed.
module _ (m : Tables) (g : LentGraph) (v s d : ℕ) (e : worth_verdict m g v s d ≡ Fine) where
  pub accepted : WorthAccepted (model_of m) (graph_of m.observations g) v s d
  unfolding worth_verdict
  accepted =
      let tested = before-fine _ _ e in
      let count = before-fine _ _ tested.1 in
      let numbers = before-fine _ _ count.1 in
      let exist = numbers-in 18 g.nodes m.actions m.observations g.nodes _ _ numbers.0 in
      let asked = and-true _ _ (unless-fine _ _ _ numbers.1) in
      let left = and-true _ _ asked.1 in
      record {
        sound = record {
          valid = tables-valid m tested.0;
          few_nodes = (count-true _ _ (and-true (count_within max_nodes g.nodes) _ (unless-fine _ _ _ count.0)).0).1;
          action_in = λ u l. (exist u l).0;
          next_in = λ u l. (exist u l).1;
        };
        node = ltb-true _ _ asked.0;
        state = ltb-true _ _ left.0;
        steps = leb-true _ _ left.1;
      }

  pub lent : GraphHeld (counts_of m) g.nodes m.transition m.observation m.reward g.actions g.next
  unfolding worth_verdict
  lent =
      let tested = before-fine _ _ e in
      let count = before-fine _ _ tested.1 in
      record {
        sound = accepted.sound;
        tables = tables-stored m tested.0;
        graph = graph-stored m.observations g (and-true (count_within max_nodes g.nodes) _ (unless-fine _ _ _ count.0)).1;
      }
