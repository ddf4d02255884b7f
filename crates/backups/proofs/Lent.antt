-- What tables and a level lend: parts that are stored, and within the limits if the whole is. Assumes nothing.
--
-- In order: a part of a level is within the limits, if the whole is; a level in slices that are long enough.
use Rattle.integers.proofs.Kit.{true, false, Bool, cond, [], ℕ, ◌≤◌, ◌<◌, arith, pos, nat_abs}
use Rattle.tables.specs.Tables.{Tables}
use Rattle.tables.specs.Limits.{max_levels}
use Rattle.tables.specs.Model.{Valid}
use Rattle.tables.specs.Storage.{counts_of, model_of}
use Rattle.tables.specs.Steps.{Stored}
use Rattle.masks.specs.Masks.{covered_in}
use Rattle.masks.specs.Steps.{MaskedFit}
use Rattle.plans.specs.Limits.{range}
use Rattle.plans.specs.Level.{Shaped}
use Rattle.levels.specs.Storage.{LentLevel, level_of, floor_in, roof_in}
use Rattle.levels.proofs.Over.{Readable}
use Rattle.backups.specs.Steps.{Roofed}

-- what is not lent is 0, covered or not
none_lent : (covered : Bool) (limit : ℕ) → nat_abs (cond covered (pos 0) (pos 0)) ≤ limit
none_lent true limit = omega arith
none_lent false limit = omega arith

-- ---- a part of a level is within the limits, if the whole is; what is not lent of it is 0 throughout
module _ (m : Tables) (some : 0 < m.actions) (t : ℕ) (l : LentLevel) (shaped : Shaped (model_of m) t (level_of m l)) where
  pub floor-shaped : Shaped (model_of m) t (floor_in m.states m.observations l.vectors [] [] l.cells.masks l.cells.entries)
  floor-shaped = record {
    some_vectors = shaped.some_vectors;
    few_vectors = shaped.few_vectors;
    few_points = omega arith;
    action_in = λ v b. some;
    entry_fits = shaped.entry_fits;
    corner_fits = λ s b. omega arith;
    value_fits = λ i b. absurd (omega arith);
    total = λ i b. absurd (omega arith);
  }

  pub roof-shaped : Shaped (model_of m) t (roof_in m.states l.cells.corners l.points l.cells.weights l.cells.values)
  roof-shaped = record {
    some_vectors = omega arith;
    few_vectors = omega arith;
    few_points = shaped.few_points;
    action_in = λ v b. some;
    entry_fits = λ v b s r. none_lent (covered_in [] v s) (range t);
    corner_fits = shaped.corner_fits;
    value_fits = shaped.value_fits;
    total = shaped.total;
  }

-- ---- a level in slices that are long enough, over tables that are not refused
module _ (m : Tables) (l : LentLevel) (valid : Valid (model_of m)) (stored : Stored (counts_of m) m.transition m.observation m.reward)
    (long : Readable m l) (shaped : Shaped (model_of m) max_levels (level_of m l)) where
  pub entries-lent : MaskedFit m.states l.vectors l.cells.masks l.cells.entries
  unfolding range
  entries-lent = record { few = shaped.few_vectors; masks_long = long.masks; stored = long.entries; entry = shaped.entry_fits }

  pub roof-lent : Roofed (counts_of m) m.transition m.observation m.reward l.cells.corners l.points l.cells.weights l.cells.values
  roof-lent = record {
    valid = valid;
    stored = stored;
    shaped = roof-shaped m valid.some_actions max_levels l shaped;
    corners_long = long.corners;
    points_stored = long.weights;
    values_long = long.values;
  }
