-- From storage to a plan graph: actions by node, next nodes by node and observation, packed as a level's choices are.
use Rattle.std.specs.Prelude.{ℕ, ◌*◌, Bool, ◌&&◌, List, leb, length, get_or}
use Rattle.tables.specs.Storage.{choice_in}
use Rattle.worths.specs.Graph.{PlanGraph}

-- a graph as it is handed in
pub record LentGraph : Type 0 where
  pub nodes : ℕ
  pub actions : List ℕ
  pub next : List ℕ

abbrev pub lent_graph : ℕ → List ℕ → List ℕ → LentGraph
lent_graph nodes actions next = record { nodes = nodes; actions = actions; next = next }

-- the graph that is read by the counts from its parts, of a model with k observations
abbrev pub graph_in : ℕ → ℕ → List ℕ → List ℕ → PlanGraph
graph_in k nodes actions next = record { nodes = nodes; action = λ v. get_or actions v 0; next = choice_in k next }

-- the graph that is handed in
abbrev pub graph_of : ℕ → LentGraph → PlanGraph
graph_of k g = graph_in k g.nodes g.actions g.next

-- its slices are long enough for its nodes
abbrev pub graph_stored : ℕ → LentGraph → Bool
graph_stored k g = leb g.nodes (length g.actions) && leb (g.nodes * k) (length g.next)
