use Rattle.worth.proofs.Prelude.{◌≡◌, sym, ◌∙◌, arith, rules, max_nodes, model_of, worth_verdict}
use Rattle.integers.proofs.Kit.{refl, true, ◌&&◌}
use Rattle.integers.proofs.Searches.{and-true}
use Rattle.refusals.specs.Verdicts.{Fine}
use Rattle.tables.specs.Tables.{Tables}
use Rattle.tables.specs.Model.{Valid}
use Rattle.tables.specs.Storage.{tables_in}
use Rattle.tables.specs.Judged.{count_within, tables_verdict}
use Rattle.tables.proofs.Accepted.{tables-valid, count-true}
use Rattle.worths.specs.Storage.{lent_graph, graph_stored}
use Rattle.worth.proofs.judge_worth.Goals as goal
use Rattle.worth.proofs.judge_worth.Goals.{In_ok-judge_tables, Else-not-nodes_within}

abbrev tables : In_ok-judge_tables → Tables
tables c = tables_in c.args.c c.args.transition.now c.args.observation.now c.args.reward.now

fine-tables : (c : In_ok-judge_tables) → tables_verdict (tables c) ≡ Fine
fine-tables c = sym c.judge_tables.ensures ∙ c.in_ok-judge_tables.was

valid-tables : (c : In_ok-judge_tables) → Valid (model_of (tables c))
valid-tables c = tables-valid _ (fine-tables c)

-- the test of the node count
count : (c : Else-not-nodes_within)
    → let a = c.args in
    (count_within max_nodes a.nodes && graph_stored a.c.observations (lent_graph a.nodes a.actions.now a.next.now)) ≡ true
count c = sym c.nodes_within.ensures ∙ c.if-not-nodes_within.false

pub returns-in_err-judge_tables : goal.returns-in_err-judge_tables
unfolding worth_verdict
returns-in_err-judge_tables c = rw (sym c.judge_tables.ensures ∙ c.in_err-judge_tables.was) (search rules)

pub nodes_within-requires : goal.nodes_within-requires
nodes_within-requires c = (valid-tables (goal.at.nodes_within-requires c).In_ok-judge_tables).few_observations

pub returns-then-not-nodes_within : goal.returns-then-not-nodes_within
unfolding worth_verdict
returns-then-not-nodes_within c =
    rw (fine-tables (goal.at.returns-then-not-nodes_within c).In_ok-judge_tables, sym c.nodes_within.ensures ∙ c.if-not-nodes_within.true) refl

pub numbers_exist-requires-clause-vectors_le_max_vectors : goal.numbers_exist-requires-clause-vectors_le_max_vectors
numbers_exist-requires-clause-vectors_le_max_vectors c =
    let at = goal.at.numbers_exist-requires-clause-vectors_le_max_vectors c in
    let h = and-true (count_within max_nodes c.args.nodes) _ (count at.Else-not-nodes_within) in
    (omega (arith, (count-true max_nodes c.args.nodes h.0).1), (valid-tables at.In_ok-judge_tables).few_observations)

pub returns-in_err-numbers_exist : goal.returns-in_err-numbers_exist
unfolding worth_verdict
returns-in_err-numbers_exist c =
    let at = goal.at.returns-in_err-numbers_exist c in
    rw (fine-tables at.In_ok-judge_tables, count at.Else-not-nodes_within, sym c.numbers_exist.ensures ∙ c.in_err-numbers_exist.was) (search rules)

pub returns-then-not-asked_within : goal.returns-then-not-asked_within
unfolding worth_verdict
returns-then-not-asked_within c =
    let at = goal.at.returns-then-not-asked_within c in
    rw (
      fine-tables at.In_ok-judge_tables,
      count at.Else-not-nodes_within,
      sym c.numbers_exist.ensures ∙ c.in_ok-numbers_exist.was,
      sym c.asked_within.ensures ∙ c.if-not-asked_within.true,
    ) refl

pub returns : goal.returns
unfolding worth_verdict
returns c =
    let at = goal.at.returns c in
    rw (
      fine-tables at.In_ok-judge_tables,
      count at.Else-not-nodes_within,
      sym c.numbers_exist.ensures ∙ c.in_ok-numbers_exist.was,
      sym c.asked_within.ensures ∙ c.if-not-asked_within.false,
    ) refl
