-- The writing of a level: the first cells of one set of slices over those of another; masks without states that there are not, entries where they are
-- covered and 0 elsewhere.
use Rattle.std.specs.Prelude.{ℕ, ◌*◌, ◌≤◌, ◌<◌, List, length, get_or, ℤ, pos}
use Rattle.integers.specs.Cells.{laid, laid_rows}
use Rattle.tables.specs.Limits.{max_states, max_observations, max_vectors}
use Rattle.masks.specs.Masks.{mask_of, covered_in, masked_in}
use Rattle.plans.specs.Limits.{max_points}
use Rattle.levels.specs.Storage.{Cells}

-- slices long enough for a level within the limits
pub record Lays (n k vectors points : ℕ) (actions choices masks : List ℕ) (entries corners : List ℤ) (weights : List ℕ) (values : List ℤ) : Type 0 where
  pub some_states : 0 < n
  pub few_states : n ≤ max_states
  pub few_observations : k ≤ max_observations
  pub few_vectors : vectors ≤ max_vectors
  pub few_points : points ≤ max_points
  pub actions_long : vectors ≤ length actions
  pub choices_long : vectors * k ≤ length choices
  pub masks_long : vectors ≤ length masks
  pub entries_long : vectors * n ≤ length entries
  pub corners_long : n ≤ length corners
  pub weights_long : points * n ≤ length weights
  pub values_long : points ≤ length values

abbrev pub laid_by : ℕ → ℕ → ℕ → ℕ → Cells → Cells → Cells
laid_by n k vectors points new x = record {
  actions = laid vectors (λ i. get_or new.actions i 0) x.actions;
  choices = laid (vectors * k) (λ i. get_or new.choices i 0) x.choices;
  masks = laid vectors (λ v. mask_of n (covered_in new.masks v)) x.masks;
  entries = laid_rows vectors n (masked_in n new.masks new.entries) x.entries;
  corners = laid n (λ i. get_or new.corners i (pos 0)) x.corners;
  weights = laid (points * n) (λ i. get_or new.weights i 0) x.weights;
  values = laid points (λ i. get_or new.values i (pos 0)) x.values;
}
