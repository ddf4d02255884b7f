-- The product with one of some vectors, by where it lies. Assumes nothing.
use Rattle.integers.proofs.Kit.{◌≡◌, ◌∙◌, ap, true, List, ℕ, ◌≤◌, ◌<◌, ◌+◌, arith, length, get_or, ℤ, pos, nat_abs}
use Rattle.integers.proofs.Lists.{row_below}
use Rattle.tables.specs.Limits.{max_entry}
use Rattle.tables.specs.Storage.{row_start, weight_in, entry_in}
use Rattle.tables.specs.Steps.{EntriesFit}
use Rattle.masks.specs.Masks.{covered_in}
use Rattle.masks.specs.Steps.{MaskedFit}
use Rattle.plans.specs.Level.{product}

-- the product with vector v
abbrev pub worth : List ℕ → List ℤ → ℕ → ℕ → ℤ
worth q entries n v = product n (weight_in q) (entry_in n entries v)

-- by where the vector starts
pub from_start : (q : List ℕ) (entries : List ℤ) (n v : ℕ) {at : ℕ} {r : ℤ} → at ≡ row_start n v
    → r ≡ product n (weight_in q) (λ s. get_or entries (at + s) (pos 0)) → r ≡ worth q entries n v
from_start q entries n v e h = h ∙ ap (λ (z : ℕ). product n (weight_in q) (λ s. get_or entries (z + s) (pos 0))) e

-- vector v lies in the slice, with entries within the limit where the weight is above 0
pub record Here (q : List ℕ) (entries : List ℤ) (n at : ℕ) : Type 0 where
  pub inside : at + n ≤ length entries
  pub within : (s : ℕ) → s < n → 0 < weight_in q s → nat_abs (get_or entries (at + s) (pos 0)) ≤ max_entry

module _ (q : List ℕ) (entries : List ℤ) (n vectors v : ℕ) {at : ℕ} (l : v < vectors) (e : at ≡ row_start n v) where
  pub here : EntriesFit n vectors entries → Here q entries n at
  here fit = record { inside = rw e (omega (arith, row_below v vectors n l, fit.stored)); within = λ s b w. rw e (fit.entry v l s b) }

  -- it covers each state with a weight above 0
  pub here-masked : (masks : List ℕ) → MaskedFit n vectors masks entries → ((s : ℕ) → s < n → 0 < weight_in q s → covered_in masks v s ≡ true)
      → Here q entries n at
  here-masked masks fit covers = record {
    inside = rw e (omega (arith, row_below v vectors n l, fit.stored));
    within = λ s b w. rw e (rw (covers s b w) at (fit.entry v l s b));
  }
