-- Whole numbers: multiples, sums over an index, division rounded down and up, and the size of what an array holds.
--
--   n · z            the multiple of z by a natural number
--   sum_to n f        f 0 + f 1 + .. + f (n - 1), in ℤ
--   total_to n f      the same in ℕ
--   largest_to n f    the largest of f 0, .., f (n - 1), or 0
--   lesser a b       the smaller of two numbers
--   floor_div z k     z / k rounded towards minus infinity
--   ceil_div z k      z / k rounded towards plus infinity
--   Below, Within    bounds on the first entries of a list
use Rattle.std.specs.Prelude.{ℕ, zero, suc, ◌+◌, ◌/◌, ◌≤◌, ◌<◌, max, cond, List, length, get_or, ℤ, pos, negsuc, neg_ℤ, nat_abs, ◌+ℤ◌, ◌*ℤ◌}
use Rattle.std.specs.Int.Signed.{le_z}

infixl 75 ◌·◌
unfoldable pub ◌·◌ : ℕ → ℤ → ℤ
n · z = pos n *ℤ z

unfoldable pub sum_to : ℕ → (ℕ → ℤ) → ℤ
sum_to zero f = pos 0
sum_to (suc n) f = sum_to n f +ℤ f n

unfoldable pub total_to : ℕ → (ℕ → ℕ) → ℕ
total_to zero f = 0
total_to (suc n) f = total_to n f + f n

unfoldable pub largest_to : ℕ → (ℕ → ℕ) → ℕ
largest_to zero f = 0
largest_to (suc n) f = max (largest_to n f) (f n)

unfoldable pub lesser : ℤ → ℤ → ℤ
lesser a b = cond (le_z a b) a b

-- - (a + 1) over k lies above - (a / k) - 1 and at most at - (a / k), so it is rounded down to the former
unfoldable pub floor_div : ℤ → ℕ → ℤ
floor_div (pos a) k = pos (a / k)
floor_div (negsuc a) k = negsuc (a / k)

unfoldable pub ceil_div : ℤ → ℕ → ℤ
ceil_div z k = neg_ℤ (floor_div (neg_ℤ z) k)

-- there are `count` entries, and each of the first `count` is at most `limit`
pub record Below (limit count : ℕ) (xs : List ℕ) : Type 0 where
  pub long : count ≤ length xs
  pub below : (i : ℕ) → i < count → get_or xs i 0 ≤ limit

-- there are `count` entries, and each of the first `count` lies between - `limit` and `limit`
pub record Within (limit count : ℕ) (xs : List ℤ) : Type 0 where
  pub long : count ≤ length xs
  pub within : (i : ℕ) → i < count → nat_abs (get_or xs i (pos 0)) ≤ limit
