-- The backup at weights p, over storage, for a roof that gives a ceiling at any weights; and what keeps it within the limits.
use Rattle.std.specs.Prelude.{ℕ, ◌*◌, ◌≤◌, ◌<◌, ◌≡◌, List, length, get_or, ℤ, pos, nat_abs, ◌+ℤ◌}
use Rattle.integers.specs.Whole.{◌·◌, sum_to, total_to, Below}
use Rattle.integers.specs.Cells.{padded}
use Rattle.tables.specs.declared.Counts.{Counts}
use Rattle.tables.specs.Limits.{max_states, max_entry, K, max_levels}
use Rattle.tables.specs.Model.{Valid}
use Rattle.tables.specs.Storage.{weight_in, model_in}
use Rattle.tables.specs.Steps.{Stored}
use Rattle.sums.specs.Steps.{moved_in, seen_in, expected_in}
use Rattle.plans.specs.Limits.{max_total, max_reached}
use Rattle.plans.specs.Level.{Level, ceiling, backup_at, Shaped}
use Rattle.levels.specs.Storage.{roof_in}
use Rattle.sawtooth.specs.Steps.{ceiling_in, CornersFit, PointsFit, max_gain}

-- the successor weights for a and o, listed by the state reached
abbrev pub successors_in : ℕ → ℕ → List ℕ → List ℕ → List ℕ → ℕ → ℕ → List ℕ
successors_in n k transition observation p a o =
    padded 0 max_states n (seen_in n k observation (padded 0 max_states n (moved_in n transition p a)) a o)

-- K × p·R(·,a) + g × the sum over o of the roof at the successor weights
unfoldable pub backup_at_in : Counts → List ℕ → List ℕ → List ℤ → (List ℕ → ℤ) → List ℕ → ℕ → ℤ
backup_at_in c transition observation reward roof p a =
    K · expected_in c.states reward p a
    +ℤ c.discount · sum_to c.observations (λ o. roof (successors_in c.states c.observations transition observation p a o))

-- the largest sum of ceilings at the successor weights
abbrev pub max_ahead : ℕ
max_ahead = max_reached * max_entry

-- what is within the limits, so that nothing overflows: the successor weights from what moved to each state, and the ceilings added up so far
pub record Ahead (n k : ℕ) (observation moved : List ℕ) (roof : List ℕ → ℤ) (a : ℕ) : Type 0 where
  pub reached : (o : ℕ) → o < k → (s : ℕ) → s < n → seen_in n k observation moved a o s ≤ max_reached
  pub ceilings : (j : ℕ) → j ≤ k → nat_abs (sum_to j (λ o. roof (padded 0 max_states n (seen_in n k observation moved a o)))) ≤ max_ahead

abbrev pub RoofFits : ℕ → ℕ → List ℕ → List ℕ → (List ℕ → ℤ) → List ℕ → ℕ → Type 0
RoofFits n k transition observation roof p a = Ahead n k observation (padded 0 max_states n (moved_in n transition p a)) roof a

-- tables that are not refused under a roof of corners, points and gains
pub record Roof (c : Counts) (transition observation : List ℕ) (reward : List ℤ) (corners : List ℤ) (weights gains : List ℕ) (points : ℕ) : Type 0 where
  pub valid : Valid (model_in c transition observation reward)
  pub stored : Stored c transition observation reward
  pub corners_fit : CornersFit c.states corners
  pub points_fit : PointsFit c.states points weights
  pub gains_fit : Below max_gain points gains
  pub fits : (p : List ℕ) → total_to c.states (weight_in p) ≤ max_total → (a : ℕ) → a < c.actions
      → RoofFits c.states c.observations transition observation (ceiling_in c.states corners weights gains points) p a

-- the roof is the ceiling of level L
abbrev pub CeilingOf : ℕ → (List ℕ → ℤ) → Level → Type 0
CeilingOf n roof L = (q : List ℕ) → roof q ≡ ceiling n L (weight_in q)

-- what each action allows at weights p: the backup over any level whose ceiling the roof is
pub record Allowed (c : Counts) (transition observation : List ℕ) (reward : List ℤ) (roof : List ℕ → ℤ) (p : ℕ → ℕ) (backups : List ℤ) : Type 0 where
  pub backup : (L : Level) → CeilingOf c.states roof L → (a : ℕ) → a < c.actions
      → get_or backups a (pos 0) ≡ backup_at (model_in c transition observation reward) L p a

-- weights of a corner or a point
pub record Light (n : ℕ) (p : List ℕ) : Type 0 where
  pub long : n ≤ length p
  pub light : total_to n (weight_in p) ≤ max_total

-- tables that are not refused, and the corners and points of a level within the limits of some level
pub record Roofed (c : Counts) (transition observation : List ℕ) (reward corners : List ℤ) (points : ℕ) (weights : List ℕ) (values : List ℤ) : Type 0 where
  pub valid : Valid (model_in c transition observation reward)
  pub stored : Stored c transition observation reward
  pub shaped : Shaped (model_in c transition observation reward) max_levels (roof_in c.states corners points weights values)
  pub corners_long : c.states ≤ length corners
  pub points_stored : points * c.states ≤ length weights
  pub values_long : points ≤ length values
