-- Laws of the answers at many mixtures. Assumes nothing.
--
-- In order: the mixtures; the slices that are written; each way out.
use Rattle.std.specs.Prelude.{Result, Err}
use Rattle.integers.proofs.Kit.{◌≡◌, ◌∙◌, ap, sym, true, false, List, ℕ, ◌≤◌, ◌<◌, ◌+◌, ◌*◌, ◌/◌, arith, le-leb, leb-true, lt-leb, leb, length}
use Rattle.integers.proofs.Kit.{set, ℤ, pos}
use native.Mathlib.Nat as NatL
use Rattle.integers.proofs.Lists.{laid_none, laid-turn, laid-length, laid-cong}
use Rattle.integers.proofs.Searches.{and-true}
use Rattle.tables.specs.Tables.{Tables}
use Rattle.refusals.specs.declared.Refusal.{Refusal}
use Rattle.refusals.specs.Verdicts.{Verdict, Fine, Refused}
use Rattle.refusals.proofs.Refusals.{goes, breaks, passes}
use Rattle.levels.specs.Storage.{Lent}
use Rattle.runs.specs.declared.Bounds.{Bounds}
use Rattle.runs.specs.State.{numbers_of, totals_of, standing_verdict}
use Rattle.tables.specs.Storage.{row_in}
use Rattle.mixtures.specs.Each.{Answers, answers, room_for_answers, refusal_in, answers_laid, each_verdict, each_of}

-- ---- the mixtures
module _ {n : ℕ} (count long : ℕ) (some : 0 < n) where
  pub enough : count ≤ long / n → leb (count * n) long ≡ true
  enough h = le-leb _ _ ((NatL.le-div_iff_mul-le some).0 h)

  pub too_few : long / n < count → leb (count * n) long ≡ false
  too_few h = lt-leb _ _ ((NatL.div-lt_iff_lt-mul some).0 h)

pub row_fits : (n count i long : ℕ) → count * n ≤ long → i < count → (i + 1) * n ≤ long
row_fits n count i long h l = omega (arith, NatL.mul-le-mul_right n (let k : i + 1 ≤ count = omega arith in k))

-- ---- the slices that are written
pub record AnswersRoom (count : ℕ) (y : Answers) : Type 0 where
  pub verdicts : count ≤ length y.verdicts
  pub lower : count ≤ length y.lower
  pub upper : count ≤ length y.upper
  pub advice : count ≤ length y.advice

pub room-true : (count : ℕ) (y : Answers)
    → room_for_answers count (length y.verdicts) (length y.lower) (length y.upper) (length y.advice) ≡ true → AnswersRoom count y
room-true count y e =
    let l = and-true _ _ e in
    let u = and-true _ _ l.1 in
    let a = and-true _ _ u.1 in
    record { verdicts = leb-true _ _ l.0; lower = leb-true _ _ u.0; upper = leb-true _ _ a.0; advice = leb-true _ _ a.1 }

same : {v v' : List ℕ} {l l' u u' : List ℤ} {a a' : List ℕ} → v ≡ v' → l ≡ l' → u ≡ u' → a ≡ a' → answers v l u a ≡ answers v' l' u' a'
same e f g h = rw (e, f, g, h)

-- as long as they were
pub record AnswersAsLong (y z : Answers) : Type 0 where
  pub verdicts : length z.verdicts ≡ length y.verdicts
  pub lower : length z.lower ≡ length y.lower
  pub upper : length z.upper ≡ length y.upper
  pub advice : length z.advice ≡ length y.advice

pub written-long : (answer : ℕ → Result Bounds Refusal) (y : Answers) {z : Answers} {i count : ℕ} → z ≡ answers_laid answer i y → AnswersRoom count y
    → i ≤ count → AnswersAsLong y z
written-long answer y {z} {i} e room b = rw e record {
  verdicts = laid-length i _ y.verdicts (omega (arith, room.verdicts));
  lower = laid-length i _ y.lower (omega (arith, room.lower));
  upper = laid-length i _ y.upper (omega (arith, room.upper));
  advice = laid-length i _ y.advice (omega (arith, room.advice));
}

module _ (answer : ℕ → Result Bounds Refusal) (v₀ : List ℕ) (l₀ u₀ : List ℤ) (a₀ : List ℕ) where
  pub written_none : answers v₀ l₀ u₀ a₀ ≡ answers_laid answer 0 (answers v₀ l₀ u₀ a₀)
  written_none = sym (same (laid_none _ v₀) (laid_none _ l₀) (laid_none _ u₀) (laid_none _ a₀))

  pub written-more : {i count k w : ℕ} {v : List ℕ} {l u : List ℤ} {a : List ℕ} {x y : ℤ}
      → answers v l u a ≡ answers_laid answer i (answers v₀ l₀ u₀ a₀) → AnswersRoom count (answers v₀ l₀ u₀ a₀) → i < count → k ≡ refusal_in (answer i)
      → x ≡ (numbers_of (answer i)).lower → y ≡ (numbers_of (answer i)).upper → w ≡ (numbers_of (answer i)).action.0
      → answers (set v i k) (set l i x) (set u i y) (set a i w) ≡ answers_laid answer (i + 1) (answers v₀ l₀ u₀ a₀)
  written-more {i} e room b k x y w = same
      (laid-turn _ i v₀ 0 (ap (λ (z : Answers). z.verdicts) e) k (omega (arith, room.verdicts)))
      (laid-turn _ i l₀ (pos 0) (ap (λ (z : Answers). z.lower) e) x (omega (arith, room.lower)))
      (laid-turn _ i u₀ (pos 0) (ap (λ (z : Answers). z.upper) e) y (omega (arith, room.upper)))
      (laid-turn _ i a₀ 0 (ap (λ (z : Answers). z.advice) e) w (omega (arith, room.advice)))

-- alike, where the answers are
pub written_same : (count : ℕ) (f g : ℕ → Result Bounds Refusal) (y : Answers) → ((i : ℕ) → f i ≡ g i) → answers_laid f count y ≡ answers_laid g count y
written_same count f g y h = same
    (laid-cong count _ _ y.verdicts (λ i l. ap refusal_in (h i)))
    (laid-cong count _ _ y.lower (λ i l. ap (λ (r : Result Bounds Refusal). (numbers_of r).lower) (h i)))
    (laid-cong count _ _ y.upper (λ i l. ap (λ (r : Result Bounds Refusal). (numbers_of r).upper) (h i)))
    (laid-cong count _ _ y.advice (λ i l. ap (λ (r : Result Bounds Refusal). (numbers_of r).action.0) (h i)))

-- ---- each way out
module _ (m : Tables) (x : Lent) (packed : List ℕ) (count : ℕ) (y : Answers) where
  -- a refusal leaves the slices
  pub left_alone : {e : Refusal} → each_verdict m x packed count y ≡ Err e → y ≡ each_of m x packed count y
  unfolding each_of
  left_alone e = rw e

  pub refused-standing : {e : Refusal} → standing_verdict m x ≡ Err e → each_verdict m x packed count y ≡ Err e
  unfolding each_verdict
  refused-standing e = rw e

  module _ {v : Verdict} (e : v ≡ standing_verdict m x) where
    module _ (f : v ≡ Fine) where
      pub refused-17 : leb (count * m.states) (length packed) ≡ false → Refused 17 0 ≡ each_verdict m x packed count y
      unfolding each_verdict
      refused-17 g = goes e f (breaks _ g)

      module _ (g : leb (count * m.states) (length packed) ≡ true) where
        pub refused-9 : room_for_answers count (length y.verdicts) (length y.lower) (length y.upper) (length y.advice) ≡ false
            → Refused 9 0 ≡ each_verdict m x packed count y
        unfolding each_verdict
        refused-9 h = goes e f (passes 17 0 g (rw h))

        pub given : room_for_answers count (length y.verdicts) (length y.lower) (length y.upper) (length y.advice) ≡ true
            → Fine ≡ each_verdict m x packed count y
        unfolding each_verdict
        given h = goes e f (passes 17 0 g (rw h))

  pub all-written : {z : Answers} → Fine ≡ each_verdict m x packed count y → z ≡ answers_laid (λ i. totals_of m x (row_in m.states packed i)) count y
      → z ≡ each_of m x packed count y
  unfolding each_of
  all-written e z = z ∙ rw (sym e)
