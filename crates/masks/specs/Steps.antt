-- What the code asks of masks: one operation on all bits at once, and entries within the limits where they are covered.
use Rattle.std.specs.Prelude.{ℕ, ◌*◌, ◌≤◌, ◌<◌, Bool, List, eqb, length, get_or, ℤ, nat_abs}
use Rattle.std.specs.Int.Bits.{bit_and}
use Rattle.integers.specs.Search.{some}
use Rattle.tables.specs.Limits.{max_vectors, max_entry}
use Rattle.masks.specs.Masks.{masked_in}

-- a mask has each of the states of another
abbrev pub includes : ℕ → ℕ → Bool
includes mask states = eqb (bit_and mask states) states

-- the mask of some vector has
abbrev pub some_includes : List ℕ → ℕ → ℕ → Bool
some_includes masks vectors states = some vectors (λ v. includes (get_or masks v 0) states)

-- a count of vectors with their masks, within the limits
pub record MaskedFit (n vectors : ℕ) (masks : List ℕ) (entries : List ℤ) : Type 0 where
  pub few : vectors ≤ max_vectors
  pub masks_long : vectors ≤ length masks
  pub stored : vectors * n ≤ length entries
  pub entry : (v : ℕ) → v < vectors → (s : ℕ) → s < n → nat_abs (masked_in n masks entries v s) ≤ max_entry
