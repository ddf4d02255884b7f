-- The tests in their order, as the code goes through them. Assumes nothing.
--
-- In order: several tests; what 9 says of the counts; 11 by stages: entries, corners, values; what is not read.
use Rattle.integers.proofs.Kit.{◌≡◌, ◌∙◌, refl, true, false, Bool, ◌&&◌, List, [], ℕ, ◌≤◌, ◌+◌, ◌*◌, arith, leb-true, leb, get_or, ℤ, pos}
use Rattle.integers.proofs.Searches.{and-true}
use Rattle.refusals.specs.Verdicts.{Verdict, Fine, Refused}
use Rattle.tables.specs.Limits.{max_vectors}
use Rattle.tables.specs.Judged.{count_within}
use Rattle.refusals.proofs.Refusals.{stops, goes, first_cong}
use Rattle.masks.specs.Masks.{masked_in}
use Rattle.plans.specs.Limits.{max_points, range}
use Rattle.plans.specs.Level.{Level}
use Rattle.levels.specs.Storage.{point_in, level_in}
use Rattle.levels.specs.Judged.{counts_hold, rows_within, values_within, ranges_verdict}

-- ---- several tests: one that fails is the whole, and after one that holds the whole is the rest
pub fails : {a : Bool} (b : Bool) → a ≡ false → false ≡ (a && b)
fails b e = rw e

pub holds_on : {a b x : Bool} → a ≡ true → x ≡ b → x ≡ (a && b)
holds_on e f = rw e f

-- what 9 says of the counts
pub counts-few : (vectors points : ℕ) → counts_hold max_vectors vectors points ≡ true → (vectors ≤ max_vectors) × (points ≤ max_points)
counts-few vectors points e =
    let h = and-true (count_within max_vectors vectors) (leb points max_points) e in
    (leb-true vectors max_vectors (and-true (leb 1 vectors) (leb vectors max_vectors) h.0).1, leb-true points max_points h.1)

-- ---- 11, at a limit that is the range of level t

-- rows of one number
rows-single : (number rows limit : ℕ) (cells : List ℤ)
    → rows_within number rows 1 limit (λ i x. get_or cells (i * 1 + x) (pos 0)) ≡ rows_within number rows 1 limit (λ i x. get_or cells i (pos 0))
unfolding rows_within
rows-single number rows limit cells =
    first_cong rows _ _ (λ i l. first_cong 1 _ _ (λ x b. let e : i * 1 + x ≡ i = omega arith in rw e))

module _ (n t vectors points : ℕ) (masks : List ℕ) (entries corners : List ℤ) (weights : List ℕ) (values : List ℤ) {limit : ℕ} (r : limit ≡ range t)
    {floor : Verdict} (e : floor ≡ rows_within 11 vectors n limit (masked_in n masks entries)) where
  abbrev W : Level
  W = level_in n 0 vectors [] [] masks entries corners points weights values

  pub entries-refused : {k i : ℕ} → floor ≡ Refused k i → floor ≡ ranges_verdict n t W
  unfolding ranges_verdict
  entries-refused f = stops _ (rw r at e) f

  module _ (f : floor ≡ Fine) {roof : Verdict} (g : roof ≡ rows_within 11 n 1 limit (λ i x. get_or corners (i * 1 + x) (pos 0))) where
    pub corners-refused : {k i : ℕ} → roof ≡ Refused k i → roof ≡ ranges_verdict n t W
    unfolding ranges_verdict
    corners-refused h = goes (rw r at e) f (stops _ (rw r at g ∙ rows-single _ _ _ corners) h)

    pub values-left : {last : Verdict} → roof ≡ Fine → last ≡ values_within n points limit (point_in n weights) (λ i. get_or values i (pos 0))
        → last ≡ ranges_verdict n t W
    unfolding ranges_verdict
    values-left h v = goes (rw r at e) f (goes (rw r at g ∙ rows-single _ _ _ corners) h (rw r at v))

-- actions and choices are not read
pub ranges-read : (n k t vectors points : ℕ) (actions choices masks : List ℕ) (entries corners : List ℤ) (weights : List ℕ) (values : List ℤ)
    → ranges_verdict n t (level_in n 0 vectors [] [] masks entries corners points weights values)
    ≡ ranges_verdict n t (level_in n k vectors actions choices masks entries corners points weights values)
unfolding ranges_verdict
ranges-read n k t vectors points actions choices masks entries corners weights values = refl
