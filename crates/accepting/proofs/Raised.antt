-- What is written is what an acceptance is said to leave. Assumes nothing.
--
-- In order: slices that are complete for a level; the slices with a level laid over them, one level higher.
use Rattle.integers.proofs.Kit.{◌≡◌, ◌∙◌, refl, sym, List, ◌∷◌, ℕ, ◌≤◌, ◌+◌, drop, ℤ}
use Rattle.integers.specs.Cells.{laid_rows}
use Rattle.integers.proofs.Lists.{laid_rows-flat}
use Rattle.tables.specs.Tables.{Tables}
use Rattle.tables.specs.Limits.{max_vectors}
use Rattle.tables.specs.Model.{Valid}
use Rattle.tables.specs.Storage.{model_of}
use Rattle.plans.specs.Limits.{max_points}
use Rattle.plans.specs.Rows.{informed_next, qmdp_next}
use Rattle.levels.specs.Storage.{Cells, LentLevel, rows, Lent, state_size, lent, lent_for, level_of, over, number_in, informed_in, qmdp_in}
use Rattle.levels.proofs.Over.{Complete, same_cells, lent_same}
use Rattle.runs.specs.State.{raised}
use Rattle.laying.specs.Steps.{Lays, laid_by}

-- slices that are complete for a level within the limits
pub lays : (m : Tables) (y : Cells) {vectors points : ℕ} → Valid (model_of m) → vectors ≤ max_vectors → points ≤ max_points
    → Complete m (lent_for vectors points y)
    → Lays m.states m.observations vectors points y.actions y.choices y.masks y.entries y.corners y.weights y.values
lays m y v few_vectors few_points c = record {
  some_states = v.some_states;
  few_states = v.few_states;
  few_observations = v.few_observations;
  few_vectors = few_vectors;
  few_points = few_points;
  actions_long = c.read.actions;
  choices_long = c.choices;
  masks_long = c.read.masks;
  entries_long = c.read.entries;
  corners_long = c.read.corners;
  weights_long = c.read.weights;
  values_long = c.read.values;
}

module _ (m : Tables) (x : Lent) (l : LentLevel) where
  -- choices and weights, laid as they lie, are their rows
  laid-over : laid_by m.states m.observations l.vectors l.points l.cells x.cells ≡ over m (level_of m l) x.cells
  unfolding over
  laid-over =
      same_cells refl (sym (laid_rows-flat l.vectors m.observations l.cells.choices x.cells.choices 0)) refl refl refl
      (sym (laid_rows-flat l.points m.states l.cells.weights x.cells.weights 0)) refl

  pub raised_is : {state : List ℕ} {y : Cells} {f q : List ℤ}
      → state ≡ (number_in x + 1) ∷ l.vectors ∷ l.points ∷ drop state_size x.state
      → y ≡ laid_by m.states m.observations l.vectors l.points l.cells x.cells
      → f ≡ laid_rows m.actions m.states (informed_next (model_of m) (informed_in m x)) x.rows.informed
      → q ≡ laid_rows m.actions m.states (qmdp_next (model_of m) (qmdp_in m x)) x.rows.qmdp
      → lent state y (rows f q) ≡ raised m x (level_of m l)
  raised_is s c f q = lent_same s (c ∙ laid-over) f q
