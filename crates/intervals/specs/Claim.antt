-- What totals within ranges say after a whole list of offers and new prices, of any content, to the certifier that opening left on accepted tables.
--
--   RangesHold    ranges at which totals are asked for
--   WithinHolds   what holds of an answer: every mixture inside the ranges has its best plan between the two totals
--   WithinClaim   the claim over the whole list
use Rattle.std.specs.Prelude.{ℕ, ◌<◌, ◌≡◌, true, List, Result, Ok}
use Rattle.tables.specs.Tables.{Tables}
use Rattle.refusals.specs.declared.Refusal.{Refusal}
use Rattle.tables.specs.Storage.{weight_in, model_of}
use Rattle.plans.specs.Totals.{some_counts}
use Rattle.plans.specs.Intervals.{lower_within, upper_within, Inside, Between}
use Rattle.levels.specs.Storage.{Lent}
use Rattle.runs.specs.Demand3.{Event, Certifier, Claim, after, steps, claim}
use Rattle.intervals.specs.declared.Enclosing.{Enclosing}
use Rattle.intervals.specs.Intervals.{ranges_hold, highs_hold, within_of}

-- ranges within the limits, at whose highs some vector of the level that is claimed counts
pub record RangesHold (m : Tables) (c : Claim) (lows highs : List ℕ) : Type 0 where
  pub ordered : ranges_hold m.states lows highs ≡ true
  pub limits : highs_hold m.states lows highs ≡ true
  pub counted : some_counts (model_of m) c.level (weight_in highs) ≡ true

-- an answer r within ranges: given, with the totals of the level that is claimed, and at every mixture b inside a bracket of what the best of all t-step
-- plans of the model earns
pub record WithinHolds (m : Tables) (t : ℕ) (c : Claim) (lows highs : List ℕ) (r : Result Enclosing Refusal) : Type 0 where
  pub answer : Enclosing
  pub given : r ≡ Ok answer
  pub lower_is : answer.lower ≡ lower_within (model_of m) c.level (weight_in lows) (weight_in highs)
  pub upper_is : answer.upper ≡ upper_within (model_of m) c.level (weight_in lows) (weight_in highs)
  pub between : (b : ℕ → ℕ) → Inside m.states (weight_in lows) (weight_in highs) b
      → Between (model_of m) t c.level (weight_in lows) (weight_in highs) b

-- the whole claim, for the tables then in force
abbrev pub WithinClaim : Tables → Lent → List Event → Type 0
WithinClaim m x es =
    let y : Certifier = after m x es in
    0 < steps m x es → (lows highs : List ℕ) → RangesHold y.tables (claim m x es) lows highs
    → WithinHolds y.tables (steps m x es) (claim m x es) lows highs (within_of y.tables y.lent lows highs)
