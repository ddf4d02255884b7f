-- The moving of numbers: slices long enough, numbers within a range, and what each slice is left with after a move by k.
use Rattle.std.specs.Prelude.{ℕ, ◌*◌, ◌≤◌, ◌<◌, cond, List, length, get_or, ℤ, pos, nat_abs, ◌-ℤ◌}
use Rattle.integers.specs.Whole.{total_to}
use Rattle.tables.specs.Limits.{max_states, max_vectors, max_entry}
use Rattle.tables.specs.Storage.{entry_in}
use Rattle.masks.specs.Masks.{covered_in, masked_in}
use Rattle.plans.specs.Limits.{max_points, max_total}
use Rattle.plans.specs.Prices.{fallen, risen}
use Rattle.levels.specs.Storage.{point_in}

-- the most that an entry is moved by: the largest change of a reward, at the last level
abbrev pub max_move : ℕ
max_move = 2 * max_entry

-- a change of a reward, by the place where it lies
abbrev pub change_at : List ℤ → List ℤ → ℕ → ℕ
change_at reward new i = nat_abs (get_or new i (pos 0) -ℤ get_or reward i (pos 0))

-- vectors within a range, at the states that they cover
pub record Vectors (n vectors limit : ℕ) (masks : List ℕ) (entries : List ℤ) : Type 0 where
  pub some_states : 0 < n
  pub few_states : n ≤ max_states
  pub few_vectors : vectors ≤ max_vectors
  pub masks_long : vectors ≤ length masks
  pub entries_long : vectors * n ≤ length entries
  pub entry : (v : ℕ) → v < vectors → (s : ℕ) → s < n → nat_abs (masked_in n masks entries v s) ≤ limit

-- points with values within a range, times the totals of their weights
pub record PricedPoints (n points limit : ℕ) (weights : List ℕ) (values : List ℤ) : Type 0 where
  pub few_states : n ≤ max_states
  pub few_points : points ≤ max_points
  pub weights_long : points * n ≤ length weights
  pub values_long : points ≤ length values
  pub total : (i : ℕ) → i < points → total_to n (point_in n weights i) ≤ max_total
  pub value : (i : ℕ) → i < points → nat_abs (get_or values i (pos 0)) ≤ total_to n (point_in n weights i) * limit

-- an entry: lower by k where it is covered
abbrev pub lowered_in : ℕ → ℕ → ℕ → List ℕ → List ℤ → ℕ → ℕ → ℤ
lowered_in n limit k masks entries v s = cond (covered_in masks v s) (fallen limit (entry_in n entries v s) k) (entry_in n entries v s)

-- a number of a corner or a row: higher by k
abbrev pub raised_in : ℕ → ℕ → List ℤ → ℕ → ℤ
raised_in limit k cells i = risen limit (get_or cells i (pos 0)) k

-- a value: higher by k times its total
abbrev pub value_in : ℕ → ℕ → ℕ → List ℕ → List ℤ → ℕ → ℤ
value_in n limit k weights values i = let total = total_to n (point_in n weights i) in risen (total * limit) (get_or values i (pos 0)) (total * k)
