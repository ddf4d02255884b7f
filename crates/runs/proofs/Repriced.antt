-- New prices, by example, in the dough model: what is moved and what stays, where numbers are held, and what is refused, in order. The prover computes the
-- definitions that the contracts name. Assumes nothing.
use Rattle.integers.proofs.Kit.{◌≡◌, refl, List, [], ◌∷◌, ℕ, replicate, ℤ, pos, negsuc}
use Rattle.integers.specs.Whole.{total_to, largest_to, lesser}
use Rattle.integers.specs.Search.{every}
use Rattle.integers.specs.Cells.{listed, laid, laid_rows}
use Rattle.tables.specs.Tables.{Tables}
use Rattle.refusals.specs.Verdicts.{Fine, Refused, first_of}
use Rattle.tables.specs.Judged.{limits_hold, rows_total, tables_verdict}
use Rattle.masks.specs.Masks.{covered}
use Rattle.plans.specs.Limits.{range}
use Rattle.plans.specs.Prices.{change, fallen, risen, repriced, raised_rows}
use Rattle.levels.specs.Storage.{rows, Lent}
use Rattle.levels.specs.Judged.{rows_within, values_within, ranges_verdict, weights_verdict, holds_up_to}
use Rattle.runs.specs.Prices.{same_plans, prices_verdict, over_numbers, priced_of}
use Rattle.runs.proofs.Dough.{dough, slices, rows_at, fresh, one}

-- the dough model with another discount, T, O or R
with : ℕ → List ℕ → List ℕ → List ℤ → Tables
with discount transition observation reward = record {
  states = 2;
  actions = 2;
  observations = 2;
  discount = discount;
  transition = transition;
  observation = observation;
  reward = reward;
}

T : List ℕ
T = 500 ∷ 500 ∷ 0 ∷ 1_000 ∷ 1_000 ∷ 0 ∷ 1_000 ∷ 0 ∷ []

O : List ℕ
O = 800 ∷ 200 ∷ 300 ∷ 700 ∷ 500 ∷ 500 ∷ 500 ∷ 500 ∷ []

-- waiting costs 50 more at the first state, and baking a ripe dough gets 20 more: d is 50. What lies past the counts is not compared
dearer : List ℤ
dearer = negsuc 149 ∷ negsuc 99 ∷ negsuc 999 ∷ pos 620 ∷ []

butter : Tables
butter = with 900 (500 ∷ 500 ∷ 0 ∷ 1_000 ∷ 1_000 ∷ 0 ∷ 1_000 ∷ 0 ∷ 7 ∷ []) O dearer

-- d is 101,000
gold : Tables
gold = with 900 T O (negsuc 99 ∷ negsuc 99 ∷ pos 100_000 ∷ pos 600 ∷ [])

-- level 2 stands, of two vectors, of which the second covers the second state alone, and of one point
second : Lent
second = record {
  state = 2 ∷ 2 ∷ 1 ∷ [];
  cells = record {
    actions = 0 ∷ 0 ∷ [];
    choices = replicate 4 0;
    masks = 3 ∷ 2 ∷ [];
    entries = negsuc 50 ∷ pos 251 ∷ pos 999_999 ∷ pos 251 ∷ [];
    corners = negsuc 31 ∷ pos 510 ∷ [];
    weights = 50 ∷ 50 ∷ [];
    values = pos 12_500 ∷ [];
  };
  rows = rows_at 2;
}

-- 100 lower and higher; the entry that is not covered stays
second-moved : Lent
second-moved = record {
  state = 2 ∷ 2 ∷ 1 ∷ [];
  cells = record {
    actions = 0 ∷ 0 ∷ [];
    choices = replicate 4 0;
    masks = 3 ∷ 2 ∷ [];
    entries = negsuc 150 ∷ pos 151 ∷ pos 999_999 ∷ pos 151 ∷ [];
    corners = pos 68 ∷ pos 610 ∷ [];
    weights = 50 ∷ 50 ∷ [];
    values = pos 22_500 ∷ [];
  };
  rows = rows (pos 50 ∷ pos 540 ∷ negsuc 989 ∷ pos 610 ∷ []) (pos 225 ∷ pos 540 ∷ negsuc 989 ∷ pos 610 ∷ []);
}

-- level 1, and all of it at the ends of its ranges
first : Lent
first = record { state = 1 ∷ 3 ∷ 1 ∷ []; cells = one; rows = rows_at 1 }

first-held : Lent
first-held = record {
  state = 1 ∷ 3 ∷ 1 ∷ [];
  cells = record {
    actions = 0 ∷ 1 ∷ 0 ∷ [];
    choices = replicate 6 0;
    masks = replicate 3 3;
    entries = replicate 6 (negsuc 99_999);
    corners = replicate 2 (pos 100_000);
    weights = 50 ∷ 50 ∷ [];
    values = pos 10_000_000 ∷ [];
  };
  rows = rows (replicate 4 (pos 100_000)) (replicate 4 (pos 100_000));
}

-- 101 levels
broken : Lent
broken = record { state = 101 ∷ 1 ∷ 0 ∷ []; cells = fresh.cells; rows = rows_at 0 }

record Table : Type 0 where
  moved : (prices_verdict dough second butter ≡ Fine) × (priced_of dough second butter ≡ second-moved)
  held : (prices_verdict dough first gold ≡ Fine) × (priced_of dough first gold ≡ first-held)
  -- at level 0 only the tables change
  level-0 : (prices_verdict dough fresh gold ≡ Fine) × (priced_of dough fresh gold ≡ fresh)
  -- 7 comes first, then 3, 5 and 6 of the new tables, and 23 last
  before-3 : prices_verdict dough broken (with 1_001 T O dearer) ≡ Refused 7 0
  three : prices_verdict dough fresh (with 1_001 (0 ∷ T) O dearer) ≡ Refused 3 0
  five : prices_verdict dough fresh (with 900 (500 ∷ 500 ∷ 1 ∷ 1_000 ∷ 1_000 ∷ 0 ∷ 1_000 ∷ 0 ∷ []) (200 ∷ 700 ∷ O) dearer) ≡ Refused 5 1
  six : prices_verdict dough fresh (with 901 T (800 ∷ 200 ∷ 300 ∷ 700 ∷ 500 ∷ 501 ∷ 500 ∷ 500 ∷ []) dearer) ≡ Refused 6 2
  other-discount : prices_verdict dough fresh (with 901 T O dearer) ≡ Refused 23 0
  other-T : prices_verdict dough fresh (with 900 (499 ∷ 501 ∷ 0 ∷ 1_000 ∷ 1_000 ∷ 0 ∷ 1_000 ∷ 0 ∷ []) O dearer) ≡ Refused 23 0
  other-O : prices_verdict dough fresh (with 900 T (800 ∷ 200 ∷ 300 ∷ 700 ∷ 500 ∷ 500 ∷ 499 ∷ 501 ∷ []) dearer) ≡ Refused 23 0

table : Table
unfolding dough slices rows_at fresh one with T O dearer butter gold second second-moved first first-held broken
    prices_verdict priced_of same_plans over_numbers change fallen risen repriced raised_rows holds_up_to tables_verdict limits_hold rows_total
    first_of every total_to largest_to lesser ranges_verdict rows_within values_within weights_verdict range covered laid laid_rows listed
table = record {
  moved = (refl, refl);
  held = (refl, refl);
  level-0 = (refl, refl);
  before-3 = refl;
  three = refl;
  five = refl;
  six = refl;
  other-discount = refl;
  other-T = refl;
  other-O = refl;
}
