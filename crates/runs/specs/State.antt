-- What opening, offering, totals and building answer, and what they leave in the slices that they are lent, on success and on refusal.
use Rattle.std.specs.Prelude.{ℕ, ◌+◌, Bool, ◌&&◌, List, ◌∷◌, leb, ltb, length, drop, ℤ, pos, ◌-ℤ◌, Result, Ok, Err}
use Rattle.integers.specs.Whole.{total_to}
use Rattle.integers.specs.Search.{every}
use Rattle.tables.specs.Tables.{Tables}
use Rattle.refusals.specs.declared.Refusal.{Refusal}
use Rattle.refusals.specs.Verdicts.{Verdict, ◌before◌, unless, left}
use Rattle.tables.specs.Limits.{max_weight, max_levels}
use Rattle.tables.specs.Model.{Model}
use Rattle.tables.specs.Storage.{weight_in, model_of}
use Rattle.tables.specs.Judged.{tables_verdict}
use Rattle.plans.specs.Limits.{max_built}
use Rattle.plans.specs.Level.{Level, level0, ceiling}
use Rattle.plans.specs.Rows.{best_row, rows0, informed_next, qmdp_next}
use Rattle.plans.specs.Totals.{some_counts, lower, upper, advice}
use Rattle.plans.specs.Build.{some_covers_all, built}
use Rattle.levels.specs.Storage.{Cells, LentLevel, Lent, state_size, level_of, point_in, complete, over, long_rows, over_rows, number_in, standing_in, lent_for}
use Rattle.levels.specs.Storage.{informed_in, qmdp_in}
use Rattle.levels.specs.Judged.{holds, weights_verdict, offer_verdict}
use Rattle.runs.specs.declared.Bounds.{Bounds}

-- a certifier at level t: the level is laid over its slices, and the rows F and Q
abbrev pub at : Tables → ℕ → Level → (ℕ → ℕ → ℤ) → (ℕ → ℕ → ℤ) → Lent → Lent
at m t W F Q x = record {
  state = t ∷ W.vectors ∷ W.points ∷ drop state_size x.state;
  cells = over m W x.cells;
  rows = over_rows m F Q x.rows;
}

-- ---- opening

-- 3, 5 and 6 of the tables; then 9 where a slice is too short for level 0
unfoldable pub open_verdict : Tables → Lent → Verdict
open_verdict m x =
    tables_verdict m
    before unless (leb state_size (length x.state) && (complete m (lent_for level0.vectors level0.points x.cells)
    && long_rows m.actions m.states (length x.rows.informed) (length x.rows.qmdp))) 9 0

unfoldable pub opened : Tables → Lent → Lent
opened m x = left (open_verdict m x) (at m 0 level0 rows0 rows0 x) x

-- ---- offering

-- the verdict by which an offer counts, and leaves its level
abbrev pub verdict_on : Tables → Lent → LentLevel → Verdict
verdict_on m x l = offer_verdict m x l

-- one level higher with a level: the rows are stepped from those that stand, whatever the level
abbrev pub raised : Tables → Lent → Level → Lent
raised m x W =
    let M : Model = model_of m in
    at m (number_in x + 1) W (informed_next M (informed_in m x)) (qmdp_next M (qmdp_in m x)) x

-- one level higher with the offered level, or as it was
unfoldable pub offered : Tables → Lent → LentLevel → Lent
offered m x l = left (verdict_on m x l) (raised m x (level_of m l)) x

-- ---- totals

-- 7 and 16, which every call for totals tests first: of the certifier by itself
unfoldable pub standing_verdict : Tables → Lent → Verdict
standing_verdict m x = unless (holds m x) 7 0 before unless (ltb 0 (number_in x)) 16 0

-- 17: a weight exceeds 1,000,000 or all are 0; or there are fewer weights than states
abbrev pub mixture_holds : ℕ → List ℕ → Bool
mixture_holds n b = leb n (length b) && (every n (λ s. leb (weight_in b s) max_weight) && ltb 0 (total_to n (weight_in b)))

-- 22: no vector counts at the mixture
unfoldable pub totals_verdict : Tables → Lent → List ℕ → Verdict
totals_verdict m x b =
    standing_verdict m x
    before unless (mixture_holds m.states b) 17 0
    before unless (some_counts (model_of m) (level_of m (standing_in x)) (weight_in b)) 22 0

-- the totals of a level, or a refusal
abbrev pub bounds_by : Verdict → Model → Level → (ℕ → ℕ → ℤ) → (ℕ → ℕ) → Result Bounds Refusal
bounds_by (Ok u) M L F b = Ok (record {
  lower = lower M L b;
  upper = upper M L F b;
  gap = upper M L F b -ℤ lower M L b;
  action = record { 0 = advice M L b };
  sawtooth = ceiling M.states L b;
  informed = best_row M F b;
})
bounds_by (Err e) M L F b = Err e

-- the totals of an answer; in a refusal every part is 0
abbrev pub numbers_of : Result Bounds Refusal → Bounds
numbers_of (Ok r) = r
numbers_of (Err e) = record { lower = pos 0; upper = pos 0; gap = pos 0; action = record { 0 = 0 }; sawtooth = pos 0; informed = pos 0 }

unfoldable pub totals_of : Tables → Lent → List ℕ → Result Bounds Refusal
totals_of m x b = bounds_by (totals_verdict m x b) (model_of m) (level_of m (standing_in x)) (informed_in m x) (weight_in b)

-- ---- building

-- the slices lent for the level that is built of a count of points: their weights are the points'
abbrev pub answer_for : Tables → ℕ → Cells → LentLevel
answer_for m count y = lent_for (m.states + count) count y

-- 22: no vector of the standing level covers all states
unfoldable pub build_verdict : Tables → Lent → ℕ → Cells → Verdict
build_verdict m x count y =
    unless (holds m x) 7 0
    before unless (ltb (number_in x) max_levels) 8 0
    before unless (leb count max_built && complete m (answer_for m count y)) 9 0
    before weights_verdict m.states count (point_in m.states y.weights)
    before unless (some_covers_all (model_of m) (level_of m (standing_in x))) 22 0

-- the level that the builder makes over a level, of the weights of some points
abbrev pub built_from : Tables → Level → ℕ → Cells → Level
built_from m L count y = built (model_of m) L count (point_in m.states y.weights)

-- the built level is laid over the slices lent for it
unfoldable pub built_of : Tables → Lent → ℕ → Cells → Cells
built_of m x count y = left (build_verdict m x count y) (over m (built_from m (level_of m (standing_in x)) count y) y) y
