use Rattle.worth.proofs.Prelude.{◌≡◌, sym, ◌∙◌, arith, rules, model_of, worth_verdict}
use Rattle.integers.proofs.Kit.{refl}
use Rattle.integers.proofs.Words.{answer}
use Rattle.tables.specs.Tables.{Tables}
use Rattle.refusals.specs.Verdicts.{Fine}
use Rattle.tables.specs.Storage.{tables_in}
use Rattle.tables.proofs.Fitting.{rows-stored}
use Rattle.worths.specs.Graph.{WorthAccepted}
use Rattle.worths.specs.Storage.{LentGraph, lent_graph, graph_of}
use Rattle.worths.specs.Steps.{GraphHeld}
use Rattle.worths.proofs.Laws.{few_states, room, worths-long, worth-at}
use Rattle.worth.specs.Judged.{worth_answer}
use Rattle.worth.proofs.Laws.{accepted, lent}
use Rattle.worth.proofs.worth.Goals as goal
use Rattle.worth.proofs.worth.Goals.{In_ok-judge_worth}

abbrev tables : In_ok-judge_worth → Tables
tables c = tables_in c.args.c c.args.transition.now c.args.observation.now c.args.reward.now

abbrev graph : In_ok-judge_worth → LentGraph
graph c = lent_graph c.args.nodes c.args.actions.now c.args.next.now

fine-here : (c : In_ok-judge_worth) → worth_verdict (tables c) (graph c) c.args.v.0 c.args.s.0 c.args.d ≡ Fine
fine-here c = sym c.judge_worth.ensures ∙ c.in_ok-judge_worth.was

taken : (c : In_ok-judge_worth) → let a = c.args in WorthAccepted (model_of (tables c)) (graph_of a.c.observations (graph c)) a.v.0 a.s.0 a.d
taken c = accepted _ _ _ _ _ (fine-here c)

lent-here : (c : In_ok-judge_worth)
    → let a = c.args in GraphHeld a.c a.nodes a.transition.now a.observation.now a.reward.now a.actions.now a.next.now
lent-here c = lent (tables c) (graph c) _ _ _ (fine-here c)

pub returns-in_err-judge_worth : goal.returns-in_err-judge_worth
unfolding worth_answer
returns-in_err-judge_worth c = rw (sym c.judge_worth.ensures ∙ c.in_err-judge_worth.was) (search rules)

pub worths-all-requires-clause-graph_held : goal.worths-all-requires-clause-graph_held
worths-all-requires-clause-graph_held c = lent-here (goal.at.worths-all-requires-clause-graph_held c).In_ok-judge_worth

pub worths-all-requires-clause-d_le_max_steps : goal.worths-all-requires-clause-d_le_max_steps
worths-all-requires-clause-d_le_max_steps c = (taken (goal.at.worths-all-requires-clause-d_le_max_steps c).In_ok-judge_worth).steps

pub entry_at-requires-clause-n_le_max_states : goal.entry_at-requires-clause-n_le_max_states
entry_at-requires-clause-n_le_max_states c =
    let f = (goal.at.entry_at-requires-clause-n_le_max_states c).In_ok-judge_worth in
    let l = lent-here f in
    (few_states l, omega (arith, (taken f).node, l.sound.few_nodes))

pub entry_at-requires-clause-s_lt_n : goal.entry_at-requires-clause-s_lt_n
entry_at-requires-clause-s_lt_n c = (taken (goal.at.entry_at-requires-clause-s_lt_n c).In_ok-judge_worth).state

pub entry_at-requires-clause-v_in_bounds : goal.entry_at-requires-clause-v_in_bounds
entry_at-requires-clause-v_in_bounds c =
    let f = (goal.at.entry_at-requires-clause-v_in_bounds c).In_ok-judge_worth in
    let a = c.args in
    let l = lent-here f in
    rows-stored a.c.states a.v.0 a.nodes (taken f).node (rw (worths-long l _ (omega arith) c.worths-all.ensures) (room l))

pub returns : goal.returns
unfolding worth_answer
returns c =
    let f = (goal.at.returns c).In_ok-judge_worth in
    let a = c.args in
    let t = taken f in
    rw (
      fine-here f,
      answer c.entry_at.type_inv c.entry_at.ensures,
      worth-at (lent-here f) a.d c.worths-all.ensures a.v.0 t.node a.s.0 t.state,
    ) refl
