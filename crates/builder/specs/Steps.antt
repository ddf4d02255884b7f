-- The rows of vectors of a built level.
use Rattle.std.specs.Prelude.{ℕ, ◌*◌, ◌≤◌, ◌≡◌, List, length, ℤ}
use Rattle.integers.specs.Cells.{laid, laid_rows}
use Rattle.masks.specs.Masks.{mask_of}
use Rattle.plans.specs.Level.{Level}

-- slices are long enough for so many vectors
pub record RowsFit (n k count : ℕ) (actions choices masks : List ℕ) (entries : List ℤ) : Type 0 where
  pub actions_fit : count ≤ length actions
  pub choices_fit : count * k ≤ length choices
  pub masks_fit : count ≤ length masks
  pub entries_fit : count * n ≤ length entries

-- the first v vectors of a level, laid over what slices had
pub record Filled (n k : ℕ) (W : Level) (v : ℕ) (actions choices masks : List ℕ) (entries : List ℤ) (actions' choices' masks' : List ℕ)
    (entries' : List ℤ) : Type 0 where
  pub actions_are : actions' ≡ laid v W.action actions
  pub choices_are : choices' ≡ laid_rows v k W.choice choices
  pub masks_are : masks' ≡ laid v (λ v. mask_of n (W.covers v)) masks
  pub entries_are : entries' ≡ laid_rows v n W.entry entries
