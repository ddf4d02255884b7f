-- Masks: a set of states as the bits of a number, bit s being 1 where state s is in it.
--
--   covered mask s            whether state s is in it
--   mask_of n f                the mask of the states below n that f holds of
--   covered_in masks v s       whether vector v covers s
--   masked_in n masks es v s   the entry of vector v at s; entries elsewhere are unread, and count as 0
use Rattle.std.specs.Prelude.{ℕ, ◌/◌, ◌%◌, ◌^◌, Bool, cond, List, eqb, get_or, ℤ, pos}
use Rattle.integers.specs.Whole.{total_to}
use Rattle.tables.specs.Storage.{entry_in}

unfoldable pub covered : ℕ → ℕ → Bool
covered mask s = eqb (mask / 2 ^ s % 2) 1

unfoldable pub mask_of : ℕ → (ℕ → Bool) → ℕ
mask_of n f = total_to n (λ s. cond (f s) (2 ^ s) 0)

abbrev pub covered_in : List ℕ → ℕ → ℕ → Bool
covered_in masks v s = covered (get_or masks v 0) s

abbrev pub masked_in : ℕ → List ℕ → List ℤ → ℕ → ℕ → ℤ
masked_in n masks entries v s = cond (covered_in masks v s) (entry_in n entries v s) (pos 0)
