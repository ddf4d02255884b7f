-- Multiples and sums of mixtures, as totals answer them at any standing level, whatever the certifier holds.
--
--   Times, Plus    c times a mixture, and the sum of two
--   Multiplied     the totals at a multiple against those at the mixture
--   Multiples      the claim
use Rattle.std.specs.Prelude.{ℕ, ◌+◌, ◌*◌, ◌<◌, ◌≡◌, true, List, ◌+ℤ◌, ◌≤ℤ◌, Ok}
use Rattle.integers.specs.Whole.{◌·◌}
use Rattle.tables.specs.Tables.{Tables}
use Rattle.tables.specs.Storage.{weight_in}
use Rattle.levels.specs.Storage.{Lent}
use Rattle.runs.specs.declared.Bounds.{Bounds}
use Rattle.runs.specs.State.{mixture_holds, totals_of}

-- each weight of b' is c times that of b
abbrev pub Times : ℕ → ℕ → List ℕ → List ℕ → Type 0
Times n c b b' = (s : ℕ) → s < n → weight_in b' s ≡ c * weight_in b s

-- each weight of b'' is the sum of those of b and b'
abbrev pub Plus : ℕ → List ℕ → List ℕ → List ℕ → Type 0
Plus n b b' b'' = (s : ℕ) → s < n → weight_in b'' s ≡ weight_in b s + weight_in b' s

-- totals y are given at a mixture
abbrev pub Given : Tables → Lent → List ℕ → Bounds → Type 0
Given m x b y = totals_of m x b ≡ Ok y

-- the totals at b', a mixture times c, against y, those at the mixture: the lower one is c times that of y, the upper one at most c times that of y
pub record Multiplied (m : Tables) (x : Lent) (c : ℕ) (b' : List ℕ) (y : Bounds) : Type 0 where
  pub answer : Bounds
  pub given : Given m x b' answer
  pub lower_is : answer.lower ≡ c · y.lower
  pub upper_most : answer.upper ≤ℤ c · y.upper

-- the whole claim, for weights that stay within their limits and are not refused; the lower total at a sum is at most the sum of the lower totals
pub record Multiples (m : Tables) (x : Lent) : Type 0 where
  pub multiple : (c : ℕ) → 0 < c → (b b' : List ℕ) → Times m.states c b b' → (y : Bounds) → Given m x b y → mixture_holds m.states b' ≡ true
      → Multiplied m x c b' y
  pub sum : (b b' b'' : List ℕ) → Plus m.states b b' b'' → (y y' y'' : Bounds) → Given m x b y → Given m x b' y' → Given m x b'' y''
      → y''.lower ≤ℤ (y.lower +ℤ y'.lower)
