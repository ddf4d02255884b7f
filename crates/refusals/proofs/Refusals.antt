-- Laws of refusals: the first that is found, as a loop finds it, and what it says that none is. Assumes nothing.
--
-- In order: what is fine, and what is not; a verdict by stages; the first of several.
use Rattle.integers.proofs.Kit.{◌≡◌, ◌∙◌, refl, sym, true, false, Bool, ℕ, ◌<◌, ◌+◌, suc, zero, arith, add-one, dec_lt}
use Rattle.integers.proofs.Parts.{is_T}
use Rattle.integers.proofs.Searches.{below_suc}
use Rattle.std.specs.Prelude.{Ok, Err}
use Rattle.std.specs.Result.{is_err}
use Rattle.refusals.specs.Verdicts.{Verdict, Fine, Refused, is_fine, ◌before◌, unless, first_of}

-- a refusal is not fine
pub never : {A : Type 0} {k i : ℕ} → Refused k i ≡ Fine → A
never {A} {k} {i} e = let z : ◌≡◌ {A = ℕ} 0 1 = cc in absurd (let n : ⊥ = omega arith in n)

pub fine-true : (v : Verdict) → is_fine v ≡ true → v ≡ Fine
fine-true (Ok u) e = refl
fine-true (Err r) e = absurd (is_T e)

pub fine-is : {v : Verdict} → v ≡ Fine → is_fine v ≡ true
fine-is e = rw e

-- what a call answers, by what is_err tells of it
pub err-refused : {v w : Verdict} {b : Bool} → v ≡ w → b ≡ is_err v → b ≡ true → is_fine w ≡ false
err-refused e f g = refuses _ (rw e at (sym f ∙ g))
  where
    refuses : (w : Verdict) → is_err w ≡ true → is_fine w ≡ false
    refuses (Ok u) e = cc
    refuses (Err r) e = refl

pub err-fine : {v w : Verdict} {b : Bool} → v ≡ w → b ≡ is_err v → b ≡ false → w ≡ Fine
err-fine e f g = serves _ (rw e at (sym f ∙ g))
  where
    serves : (w : Verdict) → is_err w ≡ false → w ≡ Fine
    serves (Ok u) e = refl
    serves (Err r) e = cc

pub before-fine : (v w : Verdict) → (v before w) ≡ Fine → (v ≡ Fine) × (w ≡ Fine)
before-fine (Ok u) w e = (refl, e)
before-fine (Err r) w e = never e

-- tests that follow others need be alike only where those are passed
pub before-cong : (v : Verdict) {w w' : Verdict} → (v ≡ Fine → w ≡ w') → (v before w) ≡ (v before w')
before-cong (Ok u) h = h refl
before-cong (Err r) h = refl

pub refused-before : {v : Verdict} (w : Verdict) {k i : ℕ} → v ≡ Refused k i → (v before w) ≡ Refused k i
refused-before w e = rw e

pub unless-fine : (b : Bool) (k i : ℕ) → unless b k i ≡ Fine → b ≡ true
unless-fine true k i e = refl
unless-fine false k i e = never e

-- ---- a verdict by stages: one that refuses is the whole, and after one that is fine the whole is the rest
pub stops : {v x : Verdict} {k i : ℕ} (w : Verdict) → v ≡ x → v ≡ Refused k i → v ≡ (x before w)
stops w e f = rw (sym e, f)

pub goes : {v x u w : Verdict} → v ≡ x → v ≡ Fine → u ≡ w → u ≡ (x before w)
goes e f g = rw (sym e, f) g

-- the same of a stage that is one test
pub breaks : {b : Bool} {k i : ℕ} (w : Verdict) → b ≡ false → Refused k i ≡ (unless b k i before w)
breaks w e = rw e

pub passes : {b : Bool} {u w : Verdict} (k i : ℕ) → b ≡ true → u ≡ w → u ≡ (unless b k i before w)
passes k i e f = rw e f

-- ---- the first of several
module _ (v : ℕ → Verdict) where
  pub first-none : first_of 0 v ≡ Fine
  unfolding first_of
  first-none = refl

  pub first_more : (n : ℕ) → first_of n v ≡ Fine → v n ≡ Fine → first_of (n + 1) v ≡ Fine
  unfolding first_of
  first_more n e f = rw (add-one, e, f)

  pub fine-at : (n : ℕ) → first_of n v ≡ Fine → (i : ℕ) → i < n → v i ≡ Fine
  unfolding first_of
  fine-at zero e i l = absurd (omega arith)
  fine-at (suc n) e i l =
      below_suc {P = λ j. v j ≡ Fine} n (λ i l. fine-at n (before-fine (first_of n v) (v n) e).0 i l) (before-fine (first_of n v) (v n) e).1 i l

  pub at-fine : (n : ℕ) → ((i : ℕ) → i < n → v i ≡ Fine) → first_of n v ≡ Fine
  unfolding first_of
  at-fine zero h = refl
  at-fine (suc n) h = rw (at-fine n (λ i l. h i (omega arith)), h n (omega arith))

  -- a loop that is left at i with a refusal
  pub first-here : {k p : ℕ} (n i : ℕ) → i < n → first_of i v ≡ Fine → v i ≡ Refused k p → first_of n v ≡ Refused k p
  unfolding first_of
  first-here zero i l e f = absurd (omega arith)
  first-here {k} {p} (suc n) i l e f = by (dec_lt i n) (λ h. first-here n i h e f)
    where
      by : Dec (i < n) → (i < n → first_of n v ≡ Refused k p) → (first_of n v before v n) ≡ Refused k p
      by (yes h) r = refused-before (v n) (r h)
      by (no h) r = let q : n ≡ i = omega arith in rw (q, e) f

pub first_cong : (n : ℕ) (v w : ℕ → Verdict) → ((i : ℕ) → i < n → v i ≡ w i) → first_of n v ≡ first_of n w
unfolding first_of
first_cong zero v w h = refl
first_cong (suc n) v w h = rw (first_cong n v w (λ i l. h i (omega arith)), h n (omega arith))
