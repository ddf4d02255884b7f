-- What 7, 11 and 12 say of points, and 7 of rows, by example: the total of the weights is 1 to 100, a value lies within that total times the range of its
-- level, rows within that range. The prover computes the definitions that the contracts name. Assumes nothing.
use Rattle.integers.proofs.Kit.{◌≡◌, refl, true, false, List, [], ◌∷◌, ℕ, suc, zero, replicate, ℤ, pos, negsuc}
use Rattle.integers.specs.Whole.{total_to}
use Rattle.integers.specs.Search.{every}
use Rattle.tables.specs.Tables.{Tables}
use Rattle.refusals.specs.Verdicts.{Verdict, Fine, Refused, first_of}
use Rattle.tables.specs.Limits.{one}
use Rattle.tables.specs.Judged.{limits_hold, rows_total, tables_verdict}
use Rattle.masks.specs.Masks.{covered}
use Rattle.plans.specs.Limits.{range}
use Rattle.plans.specs.Level.{Level}
use Rattle.levels.specs.Storage.{Lent, lent, rows, cells}
use Rattle.levels.specs.Judged.{rows_within, values_within, ranges_verdict, weights_verdict, numbers_in, level_verdict, holds, holds_up_to}

-- weights on the three, and what one point has and the next
three : ℕ → ℕ → ℕ → ℕ → ℕ
three x y z zero = x
three x y z (suc zero) = y
three x y z (suc (suc s)) = z

two : {A : Type 0} → A → A → ℕ → A
two x y zero = x
two x y (suc i) = y

level : ℕ → (ℕ → ℕ → ℕ) → (ℕ → ℤ) → Level
level points weight value = record {
  vectors = 1;
  action = λ v. 0;
  choice = λ v o. 0;
  covers = λ v s. true;
  entry = λ v s. pos 0;
  corner = λ s. pos 0;
  points = points;
  weight = weight;
  value = value;
}

-- 10 to 12 of such a level where it is offered as the first, in a model of three states
told : ℕ → (ℕ → ℕ → ℕ) → (ℕ → ℤ) → Verdict
told points weight value = level_verdict 3 1 1 1 1 (level points weight value)

-- of one with a point alone
alone : (ℕ → ℕ) → ℤ → Verdict
alone weight value = told 1 (λ i. weight) (λ i. value)

-- three crystal forms, each of which stays what it is
forms : Tables
forms = record {
  states = 3;
  actions = 1;
  observations = 1;
  discount = one;
  transition = one ∷ 0 ∷ 0 ∷ 0 ∷ one ∷ 0 ∷ 0 ∷ 0 ∷ one ∷ [];
  observation = replicate 3 one;
  reward = replicate 3 (pos 0);
}

-- a certifier at level 1 with a point alone, and rows
rowed : List ℕ → ℤ → List ℤ → List ℤ → Lent
rowed weights value informed qmdp =
    lent (1 ∷ 1 ∷ 1 ∷ []) (cells (0 ∷ []) (0 ∷ []) (7 ∷ []) (replicate 3 (pos 0)) (replicate 3 (pos 0)) weights (value ∷ [])) (rows informed qmdp)

standing : List ℕ → ℤ → Lent
standing weights value = rowed weights value (replicate 3 (pos 0)) (replicate 3 (pos 0))

-- the same with one row of each kind whose last entry is this
with_rows : ℤ → ℤ → Lent
with_rows f q = rowed (1 ∷ 1 ∷ 1 ∷ []) (pos 0) (pos 0 ∷ pos 0 ∷ f ∷ []) (pos 0 ∷ pos 0 ∷ q ∷ [])

record Table : Type 0 where
  -- thirds, and what their value lies within
  thirds : alone (three 1 1 1) (pos 300_000) ≡ Fine
  thirds-low : alone (three 1 1 1) (negsuc 299_999) ≡ Fine
  thirds-above : alone (three 1 1 1) (pos 300_001) ≡ Refused 11 0
  thirds-below : alone (three 1 1 1) (negsuc 300_000) ≡ Refused 11 0
  -- the least total and the most
  least : alone (three 0 1 0) (pos 100_000) ≡ Fine
  least_above : alone (three 0 1 0) (pos 100_001) ≡ Refused 11 0
  most : alone (three 33 33 34) (pos 10_000_000) ≡ Fine
  most-above : alone (three 33 33 34) (pos 10_000_001) ≡ Refused 11 0
  -- one less and one more, whatever the value is
  none : alone (three 0 0 0) (pos 0) ≡ Refused 12 0
  none-valued : alone (three 0 0 0) (pos 1) ≡ Refused 12 0
  more : alone (three 34 34 33) (pos 0) ≡ Refused 12 0
  more-valued : alone (three 34 34 33) (pos 10_100_001) ≡ Refused 12 0
  -- 11 comes before 12, and passes over a point that gets 12
  eleven-first : told 2 (two (three 34 34 33) (three 1 1 1)) (two (pos 10_100_001) (pos 300_001)) ≡ Refused 11 1
  twelve-then : told 2 (two (three 1 1 1) (three 0 0 0)) (two (pos 300_000) (pos 1)) ≡ Refused 12 1
  -- 7 by the same rules
  stands : holds forms (standing (1 ∷ 1 ∷ 1 ∷ []) (pos 300_000)) ≡ true
  falls-by-11 : holds forms (standing (1 ∷ 1 ∷ 1 ∷ []) (pos 300_001)) ≡ false
  falls-by-12 : holds forms (standing (34 ∷ 34 ∷ 33 ∷ []) (pos 0)) ≡ false
  -- 7 of the rows: the range of an entry, of both kinds, in slices that are long enough
  rows-stand : holds forms (with_rows (negsuc 99_999) (pos 100_000)) ≡ true
  informed-falls : holds forms (with_rows (negsuc 100_000) (pos 0)) ≡ false
  qmdp-falls : holds forms (with_rows (pos 0) (pos 100_001)) ≡ false
  rows_short : holds forms (rowed (1 ∷ 1 ∷ 1 ∷ []) (pos 0) (replicate 3 (pos 0)) (replicate 2 (pos 0))) ≡ false

table : Table
unfolding forms rowed standing with_rows three two level told alone level_verdict holds_up_to tables_verdict limits_hold rows_total numbers_in ranges_verdict
    rows_within values_within weights_verdict first_of every total_to range covered
table = record {
  thirds = refl;
  thirds-low = refl;
  thirds-above = refl;
  thirds-below = refl;
  least = refl;
  least_above = refl;
  most = refl;
  most-above = refl;
  none = refl;
  none-valued = refl;
  more = refl;
  more-valued = refl;
  eleven-first = refl;
  twelve-then = refl;
  stands = refl;
  falls-by-11 = refl;
  falls-by-12 = refl;
  rows-stand = refl;
  informed-falls = refl;
  qmdp-falls = refl;
  rows_short = refl;
}
