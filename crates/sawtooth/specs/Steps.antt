-- The ceiling over storage: gains once for a level, then drops and ceilings at any weights.
use Rattle.std.specs.Prelude.{ℕ, ◌+◌, ◌*◌, ◌≤◌, ◌<◌, List, length, get_or, ℤ, pos, negsuc, nat_abs, ◌-ℤ◌}
use Rattle.integers.specs.Whole.{largest_to}
use Rattle.tables.specs.Limits.{max_states, max_entry}
use Rattle.tables.specs.Storage.{weight_in}
use Rattle.plans.specs.Limits.{max_points, max_total}
use Rattle.plans.specs.Level.{product, smallest, or_none}
use Rattle.levels.specs.Storage.{corner_in, point_in}

-- the number where it is above 0, else 0: a gain of 0 or less has no drop
abbrev pub positive : ℤ → ℕ
positive (pos g) = g
positive (negsuc g) = 0

-- G: corners · p less the value
unfoldable pub gain_in : ℕ → List ℤ → List ℕ → List ℤ → ℕ → ℤ
gain_in n corners weights values i = product n (point_in n weights i) (corner_in corners) -ℤ get_or values i (pos 0)

-- the drop of point i at q
unfoldable pub drop_in : ℕ → List ℕ → List ℕ → List ℕ → ℕ → ℕ
drop_in n weights gains q i = or_none (smallest n (point_in n weights i) (weight_in q) (get_or gains i 0))

-- corners · q less the largest drop, or less 0
unfoldable pub ceiling_in : ℕ → List ℤ → List ℕ → List ℕ → ℕ → List ℕ → ℤ
ceiling_in n corners weights gains points q = product n (weight_in q) (corner_in corners) -ℤ pos (largest_to points (drop_in n weights gains q))

-- ---- what is stored within the limits, so that nothing overflows

pub record CornersFit (n : ℕ) (corners : List ℤ) : Type 0 where
  pub long : n ≤ length corners
  pub corner : (s : ℕ) → s < n → nat_abs (corner_in corners s) ≤ max_entry

pub record PointsFit (n points : ℕ) (weights : List ℕ) : Type 0 where
  pub few : points ≤ max_points
  pub stored : points * n ≤ length weights
  pub weight : (i : ℕ) → i < points → (s : ℕ) → s < n → point_in n weights i s ≤ max_total

pub record ValuesFit (points : ℕ) (values : List ℤ) : Type 0 where
  pub long : points ≤ length values
  pub value : (i : ℕ) → i < points → nat_abs (get_or values i (pos 0)) ≤ max_total * max_entry

-- the largest gain
abbrev pub max_gain : ℕ
max_gain = (max_states + 1) * (max_total * max_entry)

-- no drop is compared with more than one more than this, so that a weight times it fits 64 bits
abbrev pub cap : ℕ
cap = 100_000_000_000_000_000
