-- The totals at a mixture, and what they say of all plans.
use Rattle.std.specs.Prelude.{Bool, ℕ, ◌^◌, ℤ, ◌≤ℤ◌}
use Rattle.integers.specs.Whole.{◌·◌, lesser}
use Rattle.integers.specs.Search.{some, first_largest_of}
use Rattle.tables.specs.Limits.{K}
use Rattle.tables.specs.Model.{Model}
use Rattle.plans.specs.Plan.{Plan, Fits, Opens, earns_at}
use Rattle.plans.specs.Level.{Level, counts, product, ceiling}
use Rattle.plans.specs.Rows.{best_row}

-- some vector counts at the mixture: totals are given there
abbrev pub some_counts : Model → Level → (ℕ → ℕ) → Bool
some_counts M L b = some L.vectors (counts M.states L b)

-- the first vector with the largest product, of those that count
unfoldable pub best : Model → Level → (ℕ → ℕ) → ℕ
best M L b = first_largest_of L.vectors (counts M.states L b) (λ v. product M.states b (L.entry v))

-- the lower total: that vector's product
unfoldable pub lower : Model → Level → (ℕ → ℕ) → ℤ
lower M L b = product M.states b (L.entry (best M L b))

-- the action that is given with it
unfoldable pub advice : Model → Level → (ℕ → ℕ) → ℕ
advice M L b = L.action (best M L b)

-- the lower of the sawtooth ceiling and the best of the informed rows F
unfoldable pub upper : Model → Level → (ℕ → ℕ → ℤ) → (ℕ → ℕ) → ℤ
upper M L F b = lesser (ceiling M.states L b) (best_row M F b)

-- some t-step plan that opens with the action earns the lower total, and none earns more than the upper
pub record Bracket (M : Model) (t : ℕ) (L : Level) (F : ℕ → ℕ → ℤ) (b : ℕ → ℕ) : Type 0 where
  pub plan : Plan t
  pub fits : Fits M plan
  pub opens : Opens plan (advice M L b)
  pub floor : (K ^ t) · lower M L b ≤ℤ earns_at M plan b
  pub roof : (π : Plan t) → Fits M π → earns_at M π b ≤ℤ (K ^ t) · upper M L F b
