-- Many mixtures in one call: the certifier is judged once, and each mixture has the answer that totals give at it.
use Rattle.std.specs.Prelude.{ℕ, ◌*◌, Bool, ◌&&◌, List, leb, length, ℤ, Result, Ok, Err}
use Rattle.integers.specs.Cells.{laid}
use Rattle.tables.specs.Tables.{Tables}
use Rattle.refusals.specs.declared.Refusal.{Refusal}
use Rattle.refusals.specs.Verdicts.{Verdict, ◌before◌, unless, left}
use Rattle.tables.specs.Storage.{row_in}
use Rattle.levels.specs.Storage.{Lent}
use Rattle.runs.specs.declared.Bounds.{Bounds}
use Rattle.runs.specs.State.{numbers_of, totals_of, standing_verdict}

-- the slices that the answers are written to, with a place for each mixture
pub record Answers : Type 0 where
  pub verdicts : List ℕ
  pub lower : List ℤ
  pub upper : List ℤ
  pub advice : List ℕ

abbrev pub answers : List ℕ → List ℤ → List ℤ → List ℕ → Answers
answers verdicts lower upper advice = record { verdicts = verdicts; lower = lower; upper = upper; advice = advice }

-- slices of such lengths have a place for so many answers
abbrev pub room_for_answers : ℕ → ℕ → ℕ → ℕ → ℕ → Bool
room_for_answers count verdicts lower upper advice = leb count verdicts && (leb count lower && (leb count upper && leb count advice))

-- 7 and 16 of the certifier; then 17 where there are fewer weights than the mixtures have; then 9 where a slice is too short for the answers
unfoldable pub each_verdict : Tables → Lent → List ℕ → ℕ → Answers → Verdict
each_verdict m x packed count y =
    standing_verdict m x
    before unless (leb (count * m.states) (length packed)) 17 0
    before unless (room_for_answers count (length y.verdicts) (length y.lower) (length y.upper) (length y.advice)) 9 0

-- a refusal's number, and 0 where totals are given
abbrev pub refusal_in : Result Bounds Refusal → ℕ
refusal_in (Ok r) = 0
refusal_in (Err e) = e.0

-- answers over what the slices held: at place i, that of mixture i
abbrev pub answers_laid : (ℕ → Result Bounds Refusal) → ℕ → Answers → Answers
answers_laid answer count y = record {
  verdicts = laid count (λ i. refusal_in (answer i)) y.verdicts;
  lower = laid count (λ i. (numbers_of (answer i)).lower) y.lower;
  upper = laid count (λ i. (numbers_of (answer i)).upper) y.upper;
  advice = laid count (λ i. (numbers_of (answer i)).action.0) y.advice;
}

unfoldable pub each_of : Tables → Lent → List ℕ → ℕ → Answers → Answers
each_of m x packed count y = left (each_verdict m x packed count y) (answers_laid (λ i. totals_of m x (row_in m.states packed i)) count y) y
