-- The builder: from a standing level and the weights of some points, the next level.
use Rattle.std.specs.Prelude.{Bool, true, cond, ℕ, ◌+◌, ◌-◌, ltb, ℤ}
use Rattle.integers.specs.Whole.{ceil_div}
use Rattle.integers.specs.Search.{some, first_largest_of, first_largest}
use Rattle.tables.specs.Limits.{K}
use Rattle.tables.specs.Model.{Model, successor, backed_up}
use Rattle.plans.specs.Level.{Level, covers_all, product, backup_at, corner_weight, follows}

-- some vector covers all states: a level can be built upon it
abbrev pub some_covers_all : Model → Level → Bool
some_covers_all M L = some L.vectors (covers_all M.states L)

-- the first previous vector with the largest product with the successor weights, of those that cover all states
unfoldable pub chosen : Model → Level → (ℕ → ℕ) → ℕ → ℕ → ℕ
chosen M L p a o = first_largest_of L.vectors (covers_all M.states L) (λ v. product M.states (successor M p a o) (L.entry v))

-- an action's vector at weights p
unfoldable pub entry_for : Model → Level → (ℕ → ℕ) → ℕ → ℕ → ℤ
entry_for M L p a s = backed_up M a (follows L (chosen M L p a)) s

-- the first action whose vector has the largest product with p
unfoldable pub best_action : Model → Level → (ℕ → ℕ) → ℕ
best_action M L p = first_largest M.actions (λ a. product M.states p (entry_for M L p a))

-- the least whole number that meets the backup inequality of one action, and of every action
unfoldable pub least_for : Model → Level → (ℕ → ℕ) → ℕ → ℤ
least_for M L p a = ceil_div (backup_at M L p a) K

unfoldable pub least_value : Model → Level → (ℕ → ℕ) → ℤ
least_value M L p = least_for M L p (first_largest M.actions (least_for M L p))

-- the weights of vector v: corner 0, 1, .., then the points
unfoldable pub seed : ℕ → (ℕ → ℕ → ℕ) → ℕ → ℕ → ℕ
seed n weight v = cond (ltb v n) (corner_weight v) (weight (v - n))

unfoldable pub built : Model → Level → ℕ → (ℕ → ℕ → ℕ) → Level
built M L points weight = record {
  vectors = M.states + points;
  action = λ v. best_action M L (seed M.states weight v);
  choice = λ v o. chosen M L (seed M.states weight v) (best_action M L (seed M.states weight v)) o;
  covers = λ v s. true;
  entry = λ v s. entry_for M L (seed M.states weight v) (best_action M L (seed M.states weight v)) s;
  corner = λ s. least_value M L (corner_weight s);
  points = points;
  weight = weight;
  value = λ i. least_value M L (weight i);
}
