use Rattle.integers.proofs.Kit.{◌≡◌, ℕ, Bool, List, get_or, eqb, true}
use Rattle.integers.specs.Search.{every}
use Rattle.tables.specs.Storage.{transition_in}
use Rattle.columns.specs.Columns.{begins}
use Rattle.columns.proofs.begins_hold.Given as goal

-- whether word c says where the cells of column c begin
abbrev pub says : ℕ → ℕ → List ℕ → List ℕ → ℕ → Bool
says n m cells list c = eqb (get_or list c 0) (begins n m (transition_in n cells) c)

abbrev pub invariant-loop-c : goal.invariant-loop-c
invariant-loop-c l = (l.at ≡ begins l.n l.m (transition_in l.n l.cells) l.c) × (every l.c (says l.n l.m l.cells l.list) ≡ true)
