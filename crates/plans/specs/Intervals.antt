-- Weights known within ranges, a low and a high for each state: totals over all mixtures inside, and what they say of all plans.
--
--   least_product, most_product   bounds of the product of entries with the mixtures inside
--   lower_within, upper_within    the totals
--   Inside, Between             a mixture inside the ranges, and that its best plan lies between the totals
use Rattle.std.specs.Prelude.{ℕ, ◌^◌, ◌≤◌, ◌<◌, ℤ, pos, negsuc, ◌≤ℤ◌}
use Rattle.integers.specs.Whole.{◌·◌, sum_to}
use Rattle.integers.specs.Search.{first_largest_of}
use Rattle.tables.specs.Limits.{K}
use Rattle.tables.specs.Model.{Model}
use Rattle.plans.specs.Plan.{Plan, Fits, earns_at}
use Rattle.plans.specs.Level.{Level, counts}

-- the least of weight × entry: the low counts for an entry of 0 or more, the high otherwise
unfoldable pub least_of : ℕ → ℕ → ℤ → ℤ
least_of low high (pos e) = low · pos e
least_of low high (negsuc e) = high · negsuc e

-- the most of it: the high counts for an entry of 0 or more, the low otherwise
unfoldable pub most_of : ℕ → ℕ → ℤ → ℤ
most_of low high (pos e) = high · pos e
most_of low high (negsuc e) = low · negsuc e

-- the products of weights inside the ranges with entries are no less than this
unfoldable pub least_product : ℕ → (ℕ → ℕ) → (ℕ → ℕ) → (ℕ → ℤ) → ℤ
least_product n low high e = sum_to n (λ s. least_of (low s) (high s) (e s))

-- and no more than this
unfoldable pub most_product : ℕ → (ℕ → ℕ) → (ℕ → ℕ) → (ℕ → ℤ) → ℤ
most_product n low high e = sum_to n (λ s. most_of (low s) (high s) (e s))

-- the first vector with the largest least product, of those that cover every state with a high above 0
unfoldable pub surest : Model → Level → (ℕ → ℕ) → (ℕ → ℕ) → ℕ
surest M L low high = first_largest_of L.vectors (counts M.states L high) (λ v. least_product M.states low high (L.entry v))

-- the lower total: its least product
unfoldable pub lower_within : Model → Level → (ℕ → ℕ) → (ℕ → ℕ) → ℤ
lower_within M L low high = least_product M.states low high (L.entry (surest M L low high))

-- the upper total: the most product of the corners alone
unfoldable pub upper_within : Model → Level → (ℕ → ℕ) → (ℕ → ℕ) → ℤ
upper_within M L low high = most_product M.states low high L.corner

-- each weight of a mixture lies within its range
abbrev pub Inside : ℕ → (ℕ → ℕ) → (ℕ → ℕ) → (ℕ → ℕ) → Type 0
Inside n low high b = (s : ℕ) → s < n → (low s ≤ b s) × (b s ≤ high s)

-- at a mixture b some t-step plan earns the lower total, and none earns more than the upper
pub record Between (M : Model) (t : ℕ) (L : Level) (low high b : ℕ → ℕ) : Type 0 where
  pub plan : Plan t
  pub fits : Fits M plan
  pub floor : (K ^ t) · lower_within M L low high ≤ℤ earns_at M plan b
  pub roof : (π : Plan t) → Fits M π → earns_at M π b ≤ℤ (K ^ t) · upper_within M L low high
