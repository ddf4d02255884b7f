-- Totals over storage, from gains that are worked out once for a level; and what keeps them within 64 bits.
use Rattle.std.specs.Prelude.{ℕ, ◌+◌, ◌≤◌, ◌<◌, ◌^◌, Bool, true, false, List, ltb, length, get_or, ℤ, nat_abs, ◌-ℤ◌, Result, Ok, Err}
use Rattle.integers.specs.Whole.{lesser, Below}
use Rattle.integers.specs.Search.{first_largest_of}
use Rattle.integers.specs.Cells.{padded}
use Rattle.refusals.specs.declared.Refusal.{Refusal}
use Rattle.tables.specs.Limits.{max_states, max_actions, max_weight}
use Rattle.tables.specs.Storage.{weight_in, entry_in}
use Rattle.tables.specs.Steps.{EntriesFit}
use Rattle.masks.specs.Masks.{mask_of, masked_in}
use Rattle.masks.specs.Steps.{includes, some_includes, MaskedFit}
use Rattle.plans.specs.Level.{product}
use Rattle.plans.specs.Rows.{highest}
use Rattle.levels.specs.Storage.{point_in}
use Rattle.sawtooth.specs.Steps.{ceiling_in, CornersFit, PointsFit, max_gain}
use Rattle.runs.specs.declared.Bounds.{Bounds}
use Rattle.runs.specs.State.{mixture_holds}

-- the states with a weight above 0: a vector counts where its mask has them
abbrev pub support_in : ℕ → List ℕ → ℕ
support_in n q = mask_of n (λ s. ltb 0 (weight_in q s))

-- the first vector with the largest product, of those that count, and that product
abbrev pub best_in : ℕ → ℕ → List ℕ → List ℤ → List ℕ → ℕ
best_in n vectors masks entries q =
    first_largest_of vectors (λ v. includes (get_or masks v 0) (support_in n q)) (λ v. product n (weight_in q) (masked_in n masks entries v))

abbrev pub lower_in : ℕ → ℕ → List ℕ → List ℤ → List ℕ → ℤ
lower_in n vectors masks entries q = product n (weight_in q) (masked_in n masks entries (best_in n vectors masks entries q))

-- the best of m informed rows
abbrev pub best_informed_in : ℕ → ℕ → List ℤ → List ℕ → ℤ
best_informed_in n m informed q = highest m (λ a. product n (weight_in q) (entry_in n informed a))

-- the lower of the two ceilings
abbrev pub upper_in : ℕ → ℕ → ℕ → List ℤ → List ℕ → List ℤ → List ℕ → List ℕ → ℤ
upper_in n m points corners weights informed gains q = lesser (ceiling_in n corners weights gains points q) (best_informed_in n m informed q)

-- the answer at weights within the limits
abbrev pub bounds_in : ℕ → ℕ → ℕ → ℕ → List ℕ → List ℕ → List ℤ → List ℤ → List ℕ → List ℤ → List ℕ → List ℕ → Bounds
bounds_in n m vectors points actions masks entries corners weights informed gains q = record {
  lower = lower_in n vectors masks entries q;
  upper = upper_in n m points corners weights informed gains q;
  gap = upper_in n m points corners weights informed gains q -ℤ lower_in n vectors masks entries q;
  action = record { 0 = get_or actions (best_in n vectors masks entries q) 0 };
  sawtooth = ceiling_in n corners weights gains points q;
  informed = best_informed_in n m informed q;
}

-- the weights of the states, as they are widened: those of a row that is alone
abbrev pub widened : ℕ → List ℕ → List ℕ
widened n mixture = padded 0 max_states n (point_in n mixture 0)

-- an answer, or a refusal without a place where a test does not hold
abbrev pub answered_if : Bool → ℕ → Result Bounds Refusal → Result Bounds Refusal
answered_if true number r = r
answered_if false number r = Err (record { 0 = number; 1 = 0 })

-- 17 where the mixture does not hold, then 22 where no vector counts there
abbrev pub answer_in : ℕ → ℕ → ℕ → ℕ → List ℕ → List ℕ → List ℤ → List ℤ → List ℕ → List ℤ → List ℕ → List ℕ → Result Bounds Refusal
answer_in n m vectors points actions masks entries corners weights informed gains mixture =
    answered_if (mixture_holds n mixture) 17 (answered_if (some_includes masks vectors (support_in n (widened n mixture))) 22
    (Ok (bounds_in n m vectors points actions masks entries corners weights informed gains (widened n mixture))))

-- a standing level in slices with its informed rows and its gains, within the limits, so that nothing overflows
pub record Asked (n m vectors points : ℕ) (actions masks : List ℕ) (entries corners : List ℤ) (weights : List ℕ) (informed : List ℤ) (gains : List ℕ) :
    Type 0
  where
    pub few_states : n ≤ max_states
    pub some_actions : 0 < m
    pub rows_fit : EntriesFit n m informed
    pub some_vectors : 0 < vectors
    pub actions_long : vectors ≤ length actions
    pub acts : (v : ℕ) → v < vectors → get_or actions v 0 < max_actions
    pub entries_fit : MaskedFit n vectors masks entries
    pub corners_fit : CornersFit n corners
    pub points_fit : PointsFit n points weights
    pub gains_fit : Below max_gain points gains
    pub fits : (q : List ℕ) → Below max_weight n q
        → nat_abs (upper_in n m points corners weights informed gains q) + nat_abs (lower_in n vectors masks entries q) < 2 ^ 63
