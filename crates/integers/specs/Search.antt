-- Searches over the indices below a count.
--
--   every n p              p holds of each index below n
--   some n p               p holds of an index below n
--   first_largest_of n p f   of the indices below n that p holds of, the first at which f is largest among them; 0 where there is none
--   first_largest n f       the first index below n at which f is largest
use Rattle.std.specs.Prelude.{ℕ, zero, suc, Bool, true, false, not, ◌&&◌, ◌||◌, cond, ℤ}
use Rattle.std.specs.Int.Signed.{lt_z}

unfoldable pub every : ℕ → (ℕ → Bool) → Bool
every zero p = true
every (suc n) p = every n p && p n

unfoldable pub some : ℕ → (ℕ → Bool) → Bool
some zero p = false
some (suc n) p = some n p || p n

-- a later index takes the place of an earlier one only where f is larger there, or where p does not hold of the earlier one
unfoldable pub first_largest_of : ℕ → (ℕ → Bool) → (ℕ → ℤ) → ℕ
first_largest_of zero p f = 0
first_largest_of (suc n) p f = let i = first_largest_of n p f in cond (p n && (not (p i) || lt_z (f i) (f n))) n i

abbrev pub first_largest : ℕ → (ℕ → ℤ) → ℕ
first_largest n f = first_largest_of n (λ i. true) f
