-- New prices: what the call answers, and what it leaves in the slices that it is lent. The certifier goes on under the new tables.
--
--   same_plans M M'        whether two models differ in their rewards at most
--   prices_verdict m x m'  7, then 3, 5 and 6 of the new tables, then 23
--   priced_of m x m'       the certifier's slices, as the call leaves them
use Rattle.std.specs.Prelude.{ℕ, Bool, cond, ◌&&◌, eqb}
use Rattle.integers.specs.Cells.{laid, laid_rows}
use Rattle.integers.specs.Search.{every}
use Rattle.tables.specs.Tables.{Tables}
use Rattle.refusals.specs.Verdicts.{Verdict, ◌before◌, unless, left}
use Rattle.tables.specs.Model.{Model}
use Rattle.tables.specs.Storage.{entry_in, model_of}
use Rattle.tables.specs.Judged.{tables_verdict}
use Rattle.plans.specs.Level.{Level}
use Rattle.plans.specs.Prices.{change, repriced, raised_rows}
use Rattle.levels.specs.Storage.{Cells, Lent, level_of, over_rows, number_in, standing_in, informed_in, qmdp_in}
use Rattle.levels.specs.Judged.{holds}

-- ---- 23

abbrev pub counts_same : Model → Model → Bool
counts_same M M' =
    eqb M'.states M.states
    && (eqb M'.actions M.actions && (eqb M'.observations M.observations && eqb M'.discount M.discount))

-- m blocks of n rows of width w have the same cells
abbrev pub cells_same : ℕ → ℕ → ℕ → (ℕ → ℕ → ℕ → ℕ) → (ℕ → ℕ → ℕ → ℕ) → Bool
cells_same m n w cell new = every m (λ a. every n (λ s. every w (λ x. eqb (new a s x) (cell a s x))))

-- the same counts, discount, T and O
unfoldable pub same_plans : Model → Model → Bool
same_plans M M' =
    counts_same M M'
    && (cells_same M.actions M.states M.states (λ a s s'. M.transition s a s') (λ a s s'. M'.transition s a s')
    && cells_same M.actions M.states M.observations (λ a s' o. M.observation a s' o) (λ a s' o. M'.observation a s' o))

unfoldable pub prices_verdict : Tables → Lent → Tables → Verdict
prices_verdict m x m' = unless (holds m x) 7 0 before tables_verdict m' before unless (same_plans (model_of m) (model_of m')) 23 0

-- ---- what is left

-- the slices with a level's entries of covered states, its corners and its values laid over them; all else stays
unfoldable pub over_numbers : Tables → Level → Cells → Cells
over_numbers m W x = record {
  actions = x.actions;
  choices = x.choices;
  masks = x.masks;
  entries = laid_rows W.vectors m.states (λ v s. cond (W.covers v s) (W.entry v s) (entry_in m.states x.entries v s)) x.entries;
  corners = laid m.states W.corner x.corners;
  weights = x.weights;
  values = laid W.points W.value x.values;
}

-- after a change by d
abbrev pub moved : Tables → Lent → ℕ → Lent
moved m x d = record {
  state = x.state;
  cells = over_numbers m (repriced m.states (number_in x) d (level_of m (standing_in x))) x.cells;
  rows = over_rows m (raised_rows (number_in x) d (informed_in m x)) (raised_rows (number_in x) d (qmdp_in m x)) x.rows;
}

unfoldable pub priced_of : Tables → Lent → Tables → Lent
priced_of m x m' = left (prices_verdict m x m') (moved m x (change (model_of m) (model_of m'))) x
