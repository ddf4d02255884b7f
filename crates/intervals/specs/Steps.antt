-- Totals within ranges over storage, and what keeps them within 64 bits.
use Rattle.std.specs.Prelude.{ℕ, ◌≤◌, ◌<◌, Bool, true, false, List, get_or, ℤ, pos, negsuc, Result, Ok, Err}
use Rattle.integers.specs.Whole.{Below}
use Rattle.integers.specs.Search.{first_largest_of}
use Rattle.refusals.specs.declared.Refusal.{Refusal}
use Rattle.tables.specs.Limits.{max_states, max_weight}
use Rattle.tables.specs.Storage.{weight_in}
use Rattle.masks.specs.Masks.{masked_in}
use Rattle.masks.specs.Steps.{includes, some_includes, MaskedFit}
use Rattle.plans.specs.Intervals.{least_product}
use Rattle.levels.specs.Storage.{corner_in}
use Rattle.sawtooth.specs.Steps.{CornersFit}
use Rattle.bounds.specs.Steps.{support_in, widened}
use Rattle.intervals.specs.declared.Enclosing.{Enclosing}
use Rattle.intervals.specs.Intervals.{ranges_hold, highs_hold}

-- the weight that an entry takes: one for entries of 0 or more, another for those below
unfoldable pub weight_for : ℕ → ℕ → ℤ → ℕ
weight_for over under (pos e) = over
weight_for over under (negsuc e) = under

-- a low and a high for each of n states, within the limits
pub record Ranged (n : ℕ) (lows highs : List ℕ) : Type 0 where
  pub lows_fit : Below max_weight n lows
  pub highs_fit : Below max_weight n highs
  pub ordered : (s : ℕ) → s < n → weight_in lows s ≤ weight_in highs s

-- the least product of vector v
abbrev pub least_in : ℕ → List ℕ → List ℤ → List ℕ → List ℕ → ℕ → ℤ
least_in n masks entries lows highs v = least_product n (weight_in lows) (weight_in highs) (masked_in n masks entries v)

-- the largest of them, of the vectors whose masks have some states
abbrev pub lower_in_ranges : ℕ → ℕ → List ℕ → List ℤ → List ℕ → List ℕ → ℕ → ℤ
lower_in_ranges n vectors masks entries lows highs states =
    least_in n masks entries lows highs
    (first_largest_of vectors (λ v. includes (get_or masks v 0) states) (least_in n masks entries lows highs))

-- the most product of the corners
abbrev pub upper_in_ranges : ℕ → List ℤ → List ℕ → List ℕ → ℤ
upper_in_ranges n corners lows highs = least_product n (weight_in highs) (weight_in lows) (corner_in corners)

-- both totals
abbrev pub totals_in : ℕ → ℕ → List ℕ → List ℤ → List ℤ → List ℕ → List ℕ → ℕ → Enclosing
totals_in n vectors masks entries corners lows highs states =
    record { lower = lower_in_ranges n vectors masks entries lows highs states; upper = upper_in_ranges n corners lows highs }

-- an answer, or a refusal without a place where a test does not hold
abbrev pub given_if : Bool → ℕ → Result Enclosing Refusal → Result Enclosing Refusal
given_if true number r = r
given_if false number r = Err (record { 0 = number; 1 = 0 })

-- the answer: 24, 17, then 22, else both totals
abbrev pub answer_within : ℕ → ℕ → List ℕ → List ℤ → List ℤ → List ℕ → List ℕ → Result Enclosing Refusal
answer_within n vectors masks entries corners lows highs =
    let states = support_in n (widened n highs) in
    given_if (ranges_hold n lows highs) 24 (given_if (highs_hold n lows highs) 17 (given_if (some_includes masks vectors states) 22
    (Ok (totals_in n vectors masks entries corners (widened n lows) (widened n highs) states))))

-- a standing level's vectors and corners in slices, within the limits
pub record AskedWithin (n vectors : ℕ) (masks : List ℕ) (entries corners : List ℤ) : Type 0 where
  pub few_states : n ≤ max_states
  pub some_vectors : 0 < vectors
  pub entries_fit : MaskedFit n vectors masks entries
  pub corners_fit : CornersFit n corners
