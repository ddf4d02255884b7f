-- What a worth is refused for, 3, 5, 6 and 18, and the answer, on success and on refusal.
use Rattle.std.specs.Prelude.{ℕ, ℤ, Bool, ◌&&◌, leb, ltb, Result, Ok, Err}
use Rattle.tables.specs.Tables.{Tables}
use Rattle.refusals.specs.declared.Refusal.{Refusal}
use Rattle.refusals.specs.Verdicts.{Verdict, ◌before◌, unless}
use Rattle.tables.specs.Model.{Model}
use Rattle.tables.specs.Storage.{model_of}
use Rattle.tables.specs.Judged.{count_within, tables_verdict}
use Rattle.levels.specs.Judged.{numbers_in}
use Rattle.worths.specs.Limits.{max_nodes, max_steps}
use Rattle.worths.specs.Graph.{PlanGraph, worth_of}
use Rattle.worths.specs.Storage.{LentGraph, graph_of, graph_stored}

-- the asked node, state and steps are within their limits
abbrev pub asked_within : ℕ → ℕ → ℕ → ℕ → ℕ → Bool
asked_within nodes n v s d = ltb v nodes && (ltb s n && leb d max_steps)

-- the tables; then 18: the node count (a slice too short for it too), by node an action or next node, and what is asked
unfoldable pub worth_verdict : Tables → LentGraph → ℕ → ℕ → ℕ → Verdict
worth_verdict m g v s d =
    let M : Model = model_of m in
    let G : PlanGraph = graph_of m.observations g in
    tables_verdict m
    before unless (count_within max_nodes G.nodes && graph_stored M.observations g) 18 0
    before numbers_in 18 G.nodes M.actions M.observations G.nodes G.action G.next
    before unless (asked_within G.nodes M.states v s d) 18 0

-- the worth, or the refusal
abbrev pub valued_by : Verdict → Tables → LentGraph → ℕ → ℕ → ℕ → Result ℤ Refusal
valued_by (Ok u) m g v s d = Ok (worth_of (model_of m) (graph_of m.observations g) d v s)
valued_by (Err e) m g v s d = Err e

-- the worth of node v at state s with d steps left, of tables and a graph of any content
unfoldable pub worth_answer : Tables → LentGraph → ℕ → ℕ → ℕ → Result ℤ Refusal
worth_answer m g v s d = valued_by (worth_verdict m g v s d) m g v s d
