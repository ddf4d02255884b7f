-- Weights known within ranges, by example, in the dough model: both totals, and the refusals in their order. The prover computes the definitions that the
-- contract names. Assumes nothing.
use Rattle.std.specs.Prelude.{Result, Ok, Err}
use Rattle.integers.proofs.Kit.{◌≡◌, refl, [], ◌∷◌, ℕ, replicate, ℤ, pos, negsuc}
use Rattle.integers.specs.Whole.{◌·◌, sum_to, total_to}
use Rattle.integers.specs.Search.{every, some, first_largest_of}
use Rattle.refusals.specs.declared.Refusal.{Refusal}
use Rattle.refusals.specs.Verdicts.{first_of}
use Rattle.tables.specs.Judged.{limits_hold, rows_total, tables_verdict}
use Rattle.masks.specs.Masks.{covered}
use Rattle.plans.specs.Limits.{range}
use Rattle.plans.specs.Level.{counts}
use Rattle.plans.specs.Intervals.{least_of, most_of, least_product, most_product, surest, lower_within, upper_within}
use Rattle.levels.specs.Storage.{Lent}
use Rattle.levels.specs.Judged.{rows_within, values_within, ranges_verdict, weights_verdict, holds_up_to}
use Rattle.runs.proofs.Dough.{dough, slices, rows_at, fresh}
use Rattle.runs.specs.State.{standing_verdict}
use Rattle.intervals.specs.declared.Enclosing.{Enclosing}
use Rattle.intervals.specs.Intervals.{within_verdict, within_of}

-- level 1 with the first of two vectors, or with both: one waits, for ripe dough alone (-100 there), and one bakes, for all (-1000, 600)
stands : ℕ → Lent
stands vectors = record {
  state = 1 ∷ vectors ∷ 0 ∷ [];
  cells = record {
    actions = 0 ∷ 1 ∷ [];
    choices = replicate 4 0;
    masks = 2 ∷ 3 ∷ [];
    entries = pos 0 ∷ negsuc 99 ∷ negsuc 999 ∷ pos 600 ∷ [];
    corners = negsuc 99 ∷ pos 600 ∷ [];
    weights = [];
    values = [];
  };
  rows = rows_at 1;
}

abbrev given : ℤ → ℤ → Result Enclosing Refusal
given x y = Ok (record { lower = x; upper = y })

abbrev refused : ℕ → Result Enclosing Refusal
refused number = Err (record { 0 = number; 1 = 0 })

record Table : Type 0 where
  -- 3 × -1000 + 2 × 600, and 1 × -100 + 4 × 600: the vector that waits does not count
  both-totals : within_of dough (stands 2) (1 ∷ 2 ∷ []) (3 ∷ 4 ∷ []) ≡ given (negsuc 1_799) (pos 2_300)
  -- both vectors count: the larger of 4 × -100 and 2 × 600
  ripe-alone : within_of dough (stands 2) (0 ∷ 2 ∷ []) (0 ∷ 4 ∷ []) ≡ given (pos 1_200) (pos 2_400)
  -- at a range of one mixture, the products there
  one-mixture : within_of dough (stands 2) (1 ∷ 1 ∷ []) (1 ∷ 1 ∷ []) ≡ given (negsuc 399) (pos 500)
  -- 22 reads the highs: a state whose weight may be above 0 is to be covered
  may-be-unripe : within_of dough (stands 1) (0 ∷ 1 ∷ []) (1 ∷ 1 ∷ []) ≡ refused 22
  surely-ripe : within_of dough (stands 1) (0 ∷ 1 ∷ []) (0 ∷ 1 ∷ []) ≡ given (negsuc 99) (pos 600)
  -- 17 reads the highs, and comes before 22
  high-too-large : within_of dough (stands 1) (0 ∷ 0 ∷ []) (1 ∷ 1_000_001 ∷ []) ≡ refused 17
  no-weight : within_of dough (stands 2) (0 ∷ 0 ∷ []) (0 ∷ 0 ∷ []) ≡ refused 17
  no-low : within_of dough (stands 2) (0 ∷ 0 ∷ []) (1 ∷ 1 ∷ []) ≡ given (negsuc 999) (pos 600)
  -- 24 comes before 17
  low-above-high : within_of dough (stands 2) (2 ∷ 0 ∷ []) (1 ∷ 1_000_001 ∷ []) ≡ refused 24
  -- a missing weight is 0 for 24, then gets 17
  high-missing : within_of dough (stands 2) (0 ∷ 1 ∷ []) (1 ∷ []) ≡ refused 24
  both-missing : within_of dough (stands 2) (0 ∷ []) (1 ∷ []) ≡ refused 17
  low-missing : within_of dough (stands 2) (0 ∷ []) (1 ∷ 1 ∷ []) ≡ refused 17
  -- 16 comes before 24
  level-0 : within_of dough fresh (2 ∷ 0 ∷ []) (1 ∷ 1 ∷ []) ≡ refused 16

table : Table
unfolding dough slices rows_at fresh stands
    within_of within_verdict standing_verdict holds_up_to tables_verdict limits_hold rows_total ranges_verdict rows_within values_within weights_verdict range
    first_of every some total_to sum_to first_largest_of counts covered least_of most_of least_product most_product surest lower_within upper_within ◌·◌
table = record {
  both-totals = refl;
  ripe-alone = refl;
  one-mixture = refl;
  may-be-unripe = refl;
  surely-ripe = refl;
  high-too-large = refl;
  no-weight = refl;
  no-low = refl;
  low-above-high = refl;
  high-missing = refl;
  both-missing = refl;
  low-missing = refl;
  level-0 = refl;
}
