-- Laws of what lies over the first cells of a slice. Assumes nothing.
use Rattle.integers.proofs.Kit.{◌≡◌, ◌∙◌, ap, sym, zero-add, List, ℕ, arith, drop, take, replicate}
use mathlib.Core.List.{◌++◌}
use Rattle.std.proofs.lemmas.List.{take-replicate}
use Rattle.integers.specs.Cells.{laid}
use Rattle.integers.proofs.Lists.{same-laid}

-- one value, laid over the first w cells
pub laid-same : {A : Type 0} (z : A) (w : ℕ) (xs : List A) → replicate w z ++ drop w xs ≡ laid w (λ i. z) xs
laid-same {A = A} z w xs =
    ap (λ (row : List A). row ++ drop w xs) (sym (take-replicate w w z (omega arith)))
    ∙ ap (λ (k : ℕ). take w (replicate w z) ++ drop k xs) (sym (zero-add w))
    ∙ same-laid z w w xs (omega arith)
