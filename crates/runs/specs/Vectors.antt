-- Acceptance of built levels, as a claim over the most vectors that a level may have.
use Rattle.std.specs.Prelude.{ℕ, ◌+◌, ◌<◌, ◌≤◌, ◌≡◌, true}
use Rattle.tables.specs.Tables.{Tables}
use Rattle.refusals.specs.Verdicts.{Fine}
use Rattle.tables.specs.Limits.{max_levels}
use Rattle.tables.specs.Storage.{model_of}
use Rattle.plans.specs.Build.{some_covers_all}
use Rattle.levels.specs.Storage.{Cells, Lent, level_of, over, number_in, standing_in}
use Rattle.levels.specs.Judged.{holds_up_to, offer_up_to}
use Rattle.runs.specs.State.{answer_for, built_from}
use Rattle.runs.specs.Demand3.{PointsHold}

-- what is built upon a certifier whose levels have at most `most` vectors, whatever it holds within its limits, is accepted by it, if some vector of
-- its level covers all states and that many vectors are enough for one at each corner and point
abbrev pub BuiltAccepted : ℕ → Type 0
BuiltAccepted most =
    (m : Tables) (x : Lent) → holds_up_to most m x ≡ true → number_in x < max_levels
    → some_covers_all (model_of m) (level_of m (standing_in x)) ≡ true → (count : ℕ) (y : Cells) → PointsHold m x count y → m.states + count ≤ most
    → offer_up_to most m x (answer_for m count (over m (built_from m (level_of m (standing_in x)) count y) y)) ≡ Fine
