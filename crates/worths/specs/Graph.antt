-- A plan graph, and the worth of its nodes by one backup for each step left.
use Rattle.std.specs.Prelude.{ℕ, zero, suc, ◌≤◌, ◌<◌, ℤ, pos}
use Rattle.tables.specs.Model.{Model, Valid, backed_up}
use Rattle.worths.specs.Limits.{max_nodes, max_steps}

-- each node has an action and, for each observation, the node to go on with
pub record PlanGraph : Type 0 where
  pub nodes : ℕ
  pub action : ℕ → ℕ
  pub next : ℕ → ℕ → ℕ

-- nothing with no step left; else the vector backup, over K and rounded down, of what follows with a step less
unfoldable pub worth_of : Model → PlanGraph → ℕ → ℕ → ℕ → ℤ
worth_of M G zero v s = pos 0
worth_of M G (suc d) v s = backed_up M (G.action v) (λ o s'. worth_of M G d (G.next v o) s') s

-- what tables and a graph that are not refused have
pub record Sound (M : Model) (G : PlanGraph) : Type 0 where
  pub valid : Valid M
  pub few_nodes : G.nodes ≤ max_nodes
  pub action_in : (v : ℕ) → v < G.nodes → G.action v < M.actions
  pub next_in : (v : ℕ) → v < G.nodes → (o : ℕ) → o < M.observations → G.next v o < G.nodes

-- and what is asked of them: a node, a state and steps left
pub record WorthAccepted (M : Model) (G : PlanGraph) (v s d : ℕ) : Type 0 where
  pub sound : Sound M G
  pub node : v < G.nodes
  pub state : s < M.states
  pub steps : d ≤ max_steps
