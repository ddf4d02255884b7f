-- Whether each cell of packed rows is within a limit, by the largest of them. Assumes nothing.
use Rattle.integers.proofs.Kit.{◌≡◌, ◌∙◌, refl, sym, ap, true, false, Bool, ◌&&◌, and_comm, ℕ, zero, suc, ◌+◌, ◌*◌, ◌≤◌, arith, leb, leb-true, le-leb}
use mathlib.Core.Bool.{and-false}
use Prim.Native.Nat.{max}
use native.Mathlib.Nat as NatL
use native.Mathlib.Decide.{dec_le}
use Rattle.integers.specs.Whole.{largest_to}
use Rattle.integers.specs.Search.{every}
use Rattle.integers.proofs.Searches.{every-add}

-- ---- the largest

-- where a number is within a limit, smaller ones are
smaller : (a b limit : ℕ) → a ≤ b → leb b limit ≡ (leb a limit && leb b limit)
smaller a b limit h = by (leb b limit) refl
  where
    by : (t : Bool) → leb b limit ≡ t → leb b limit ≡ (leb a limit && leb b limit)
    by true e = let l : leb a limit ≡ true = le-leb a limit (omega (arith, leb-true b limit e)) in sym (ap (λ (x : Bool). x && leb b limit) l)
    by false e = e ∙ sym (and-false (leb a limit)) ∙ ap (λ (x : Bool). leb a limit && x) (sym e)

-- the larger of two is within a limit where both are
leb-max : (a b limit : ℕ) → leb (max a b) limit ≡ (leb a limit && leb b limit)
leb-max a b limit = by (dec_le a b)
  where
    by : Dec (a ≤ b) → leb (max a b) limit ≡ (leb a limit && leb b limit)
    by (yes h) = rw (NatL.max-eq_right h) (smaller a b limit h)
    by (no h) = let l : b ≤ a = omega arith in rw (NatL.max-eq_left l) (smaller b a limit l ∙ and_comm (leb b limit) (leb a limit))

-- the largest is within a limit where each is
pub largest-every : (n limit : ℕ) (f : ℕ → ℕ) → leb (largest_to n f) limit ≡ every n (λ i. leb (f i) limit)
unfolding largest_to every
largest-every zero limit f = le-leb 0 limit (omega arith)
largest-every (suc n) limit f = leb-max (largest_to n f) (f n) limit ∙ ap (λ (b : Bool). b && leb (f n) limit) (largest-every n limit f)

-- ---- rows that lie one after the other

pub every-rows : (r w : ℕ) (p : ℕ → Bool) → every (r * w) p ≡ every r (λ i. every w (λ x. p (i * w + x)))
unfolding every
every-rows zero w p = let e : 0 * w ≡ 0 = omega arith in ap (λ (n : ℕ). every n p) e
every-rows (suc r) w p =
    let e : suc r * w ≡ r * w + w = omega arith in
    ap (λ (n : ℕ). every n p) e ∙ every-add (r * w) w p ∙ ap (λ (t : Bool). t && every w (λ x. p (r * w + x))) (every-rows r w p)

-- a test of each cell is one of each block, row and place
pub every-cells : (m n w : ℕ) (p : ℕ → Bool) → every (m * n * w) p ≡ every m (λ a. every n (λ s. every w (λ x. p ((a * n + s) * w + x))))
every-cells m n w p = every-rows (m * n) w p ∙ every-rows m n (λ i. every w (λ x. p (i * w + x)))
