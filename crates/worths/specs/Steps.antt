-- What the code works out on the way: worths of all nodes at all states, one step after the other.
use Rattle.std.specs.Prelude.{ℕ, ◌*◌, ◌≤◌, List, length, ℤ, pos}
use Rattle.integers.specs.Cells.{grid}
use Rattle.tables.specs.declared.Counts.{Counts}
use Rattle.tables.specs.Limits.{max_states}
use Rattle.tables.specs.Model.{backed_up}
use Rattle.tables.specs.Storage.{entry_in, model_in}
use Rattle.tables.specs.Steps.{Stored}
use Rattle.worths.specs.Limits.{max_nodes}
use Rattle.worths.specs.Graph.{Sound}
use Rattle.worths.specs.Storage.{graph_in}

-- numbers by node and state, as they are stored
abbrev pub worths_by : ℕ → ℕ → (ℕ → ℕ → ℤ) → List ℤ
worths_by n nodes worth = grid (pos 0) (max_nodes * max_states) nodes n worth

-- by node and state: the vector backup over K, rounded down, of the numbers before at the next nodes
abbrev pub backed_up_of : Counts → ℕ → List ℕ → List ℕ → List ℤ → List ℕ → List ℕ → List ℤ → ℕ → ℕ → ℤ
backed_up_of c nodes transition observation reward actions next before v s =
    let graph = graph_in c.observations nodes actions next in
    backed_up (model_in c transition observation reward) (graph.action v) (λ o s'. entry_in c.states before (graph.next v o) s') s

-- a graph long enough for its counts
pub record GraphStored (k nodes : ℕ) (actions next : List ℕ) : Type 0 where
  pub actions_long : nodes ≤ length actions
  pub next_stored : nodes * k ≤ length next

-- lent tables and a lent graph that are not refused, long enough for their counts
pub record GraphHeld (c : Counts) (nodes : ℕ) (transition observation : List ℕ) (reward : List ℤ) (actions next : List ℕ) : Type 0 where
  pub sound : Sound (model_in c transition observation reward) (graph_in c.observations nodes actions next)
  pub tables : Stored c transition observation reward
  pub graph : GraphStored c.observations nodes actions next
