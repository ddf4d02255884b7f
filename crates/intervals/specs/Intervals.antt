-- Weights known within ranges: what is refused, 7, 16, 24, 17 and 22 in this order, and the answer, on success and on refusal.
use Rattle.std.specs.Prelude.{ℕ, Bool, ◌&&◌, List, leb, length, Result, Ok, Err}
use Rattle.integers.specs.Search.{every}
use Rattle.tables.specs.Tables.{Tables}
use Rattle.refusals.specs.declared.Refusal.{Refusal}
use Rattle.refusals.specs.Verdicts.{Verdict, ◌before◌, unless}
use Rattle.tables.specs.Model.{Model}
use Rattle.tables.specs.Storage.{weight_in, model_of}
use Rattle.plans.specs.Level.{Level}
use Rattle.plans.specs.Totals.{some_counts}
use Rattle.plans.specs.Intervals.{lower_within, upper_within}
use Rattle.levels.specs.Storage.{Lent, level_of, standing_in}
use Rattle.runs.specs.State.{mixture_holds, standing_verdict}
use Rattle.intervals.specs.declared.Enclosing.{Enclosing}

-- 24: a low exceeds its high; a weight that is missing is 0 here
abbrev pub ranges_hold : ℕ → List ℕ → List ℕ → Bool
ranges_hold n lows highs = every n (λ s. leb (weight_in lows s) (weight_in highs s))

-- 17: a high exceeds 1,000,000 or all are 0; or there are fewer lows or highs than states
abbrev pub highs_hold : ℕ → List ℕ → List ℕ → Bool
highs_hold n lows highs = leb n (length lows) && mixture_holds n highs

-- 22: no vector counts at the highs
unfoldable pub within_verdict : Tables → Lent → List ℕ → List ℕ → Verdict
within_verdict m x lows highs =
    standing_verdict m x
    before unless (ranges_hold m.states lows highs) 24 0
    before unless (highs_hold m.states lows highs) 17 0
    before unless (some_counts (model_of m) (level_of m (standing_in x)) (weight_in highs)) 22 0

-- the totals of a level, or a refusal
abbrev pub within_by : Verdict → Model → Level → (ℕ → ℕ) → (ℕ → ℕ) → Result Enclosing Refusal
within_by (Ok u) M L low high = Ok (record { lower = lower_within M L low high; upper = upper_within M L low high })
within_by (Err e) M L low high = Err e

-- the answer: the totals of the standing level
unfoldable pub within_of : Tables → Lent → List ℕ → List ℕ → Result Enclosing Refusal
within_of m x lows highs = within_by (within_verdict m x lows highs) (model_of m) (level_of m (standing_in x)) (weight_in lows) (weight_in highs)
