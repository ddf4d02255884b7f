-- The first largest of those that p holds of, as a loop finds it. Assumes nothing.
--
-- In order: what the search has so far; nothing yet; the first one met; one more, larger or not; the end.
use Rattle.integers.proofs.Kit.{ℕ, ◌+◌, ◌<◌, suc, zero, ◌≡◌, ◌∙◌, refl, sym, ap, arith, Bool, true, false, ℤ, lt_z, or-true}
use mathlib.Core.Bool.{not}
use Rattle.integers.proofs.Parts.{is_T}
use Rattle.integers.specs.Search.{some, first_largest_of}
use Rattle.integers.proofs.Searches.{below_suc, some-none, of-first, of-later, of-same, of-in}

-- what the search has below v: the first largest so far, and f there, where one was met that p holds of
pub record Found (p : ℕ → Bool) (f : ℕ → ℤ) (v : ℕ) (found : Bool) (best : ℕ) (most : ℤ) : Type 0 where
  pub place : best ≡ first_largest_of v p f
  pub met : found ≡ true → (p best ≡ true) × (most ≡ f best)
  pub none : found ≡ false → (i : ℕ) → i < v → p i ≡ false

module _ (p : ℕ → Bool) (f : ℕ → ℤ) where
  pub found_nothing : {most : ℤ} → Found p f 0 false 0 most
  unfolding first_largest_of
  found_nothing = record { place = refl; met = λ e. absurd (is_T e); none = λ e i l. absurd (omega arith) }

  -- the first that is met
  pub first-met : (v : ℕ) → p v ≡ true → ((i : ℕ) → i < v → p i ≡ false) → first_largest_of (v + 1) p f ≡ v
  first-met zero e none = of-first p f
  first-met (suc v) e none = of-later p f (suc v) e (rw (none _ (of-in p f (suc v) (omega arith))) refl)

  module _ {v best : ℕ} {found : Bool} {most : ℤ} (so_far : Found p f v found best most) where
    -- p does not hold of v
    pub passed-place : p v ≡ false → first_largest_of (v + 1) p f ≡ best
    passed-place h = of-same p f v (rw h refl) ∙ sym so_far.place

    pub passed : {r : Bool} {b : ℕ} {m : ℤ} → p v ≡ false → r ≡ found → b ≡ best → m ≡ most → Found p f (v + 1) r b m
    passed h e g k = record {
      place = g ∙ sym (passed-place h);
      met = λ t. rw (g, k) (so_far.met (sym e ∙ t));
      none = λ t i l. below_suc v (so_far.none (sym e ∙ t)) h i (omega arith);
    }

    -- it does, and f is larger there, or not
    module _ {here : ℤ} (holds : p v ≡ true) (seen : here ≡ f v) where
      pub larger : lt_z most here ≡ true → found ≡ true → first_largest_of (v + 1) p f ≡ v
      larger t e = of-later p f v holds (rw (← so_far.place, ← (so_far.met e).1, ← seen, t) (or-true (not (p best))))

      pub taken : {r : Bool} {b : ℕ} {m : ℤ} → first_largest_of (v + 1) p f ≡ v → r ≡ true → b ≡ v → m ≡ here → Found p f (v + 1) r b m
      taken first e g k = record {
        place = g ∙ sym first;
        met = λ t. (ap p g ∙ holds, k ∙ seen ∙ ap f (sym g));
        none = λ t. absurd (is_T (sym t ∙ e));
      }

      pub left-place : found ≡ true → lt_z most here ≡ false → first_largest_of (v + 1) p f ≡ best
      left-place h t =
          of-same p f v (rw (holds, ← so_far.place, (so_far.met h).0, ← (so_far.met h).1, ← seen, t) refl) ∙ sym so_far.place

      pub left : {r : Bool} {b : ℕ} {m : ℤ} → found ≡ true → lt_z most here ≡ false → r ≡ found → b ≡ best → m ≡ most → Found p f (v + 1) r b m
      left h t e g k = record {
        place = g ∙ sym (left-place h t);
        met = λ u. rw (g, k) (so_far.met h);
        none = λ u. absurd (is_T (sym u ∙ e ∙ h));
      }

    -- at the end, where p holds of some
    pub found_some : some v p ≡ true → most ≡ f (first_largest_of v p f)
    found_some h = by found so_far.met so_far.none
      where
        by : (b : Bool) → (b ≡ true → (p best ≡ true) × (most ≡ f best)) → (b ≡ false → (i : ℕ) → i < v → p i ≡ false) → most ≡ f (first_largest_of v p f)
        by true met none = (met refl).1 ∙ ap f so_far.place
        by false met none = absurd (is_T (sym (some-none v p (none refl)) ∙ h))
