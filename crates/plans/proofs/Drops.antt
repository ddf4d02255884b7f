-- Laws for evaluating the largest drop fast: the drop of a point is the greatest number that times its weights stays below the gain times q, so one state
-- caps it, and where one state has the least quotient q / p the drop is read off there. Assumes nothing.
use Rattle.integers.proofs.Kit.{◌≡◌, ℕ, ◌≤◌, ◌<◌, ◌+◌, ◌*◌, suc, zero, ◌/◌, arith}
use native.Mathlib.Nat as NatL
use Rattle.plans.specs.Level.{Ratio, none, ratio, joined, smallest, or_none}
use Rattle.plans.proofs.Ceiling.{Safe, smallest-safe, drop-below}

-- a ratio, if there is one, is at least c
Reaches : ℕ → Ratio → Type 0
Reaches c none = Unit {0}
Reaches c (ratio d) = c ≤ d

joined-reaches : (c : ℕ) (r : Ratio) (x w : ℕ) → Reaches c r → c * w ≤ x → Reaches c (joined r x w)
unfolding Reaches joined
joined-reaches c none x zero h k = tt
joined-reaches c (ratio d) x zero h k = h
joined-reaches c none x (suc w) h k = (NatL.le-div_iff_mul-le {k = suc w} (omega arith)).1 k
joined-reaches c (ratio d) x (suc w) h k = NatL.le-min h ((NatL.le-div_iff_mul-le {k = suc w} (omega arith)).1 k)

smallest-reaches : (c n : ℕ) (p q : ℕ → ℕ) (G : ℕ) → ((s : ℕ) → s < n → c * p s ≤ q s * G) → Reaches c (smallest n p q G)
unfolding smallest Reaches
smallest-reaches c zero p q G h = tt
smallest-reaches c (suc n) p q G h =
    joined-reaches c (smallest n p q G) (q n * G) (p n) (smallest-reaches c n p q G (λ s l. h s (omega arith))) (h n (omega arith))

-- The drop is the greatest: whatever times p is at most q times the gain at every state is at most the drop, where some state has weight.
-- At each state with weight, c × p(s) ≤ q(s) × G gives c ≤ q(s) × G / p(s) rounded down, so c is at most the smallest of these; there is one. Qed.
pub drop-greatest : (c n : ℕ) (p q : ℕ → ℕ) (G : ℕ) → ((s : ℕ) → s < n → c * p s ≤ q s * G) → (s : ℕ) → s < n → 0 < p s
    → c ≤ or_none (smallest n p q G)
unfolding Reaches Safe or_none
drop-greatest c n p q G h s l k = by (smallest n p q G) (smallest-reaches c n p q G h) (smallest-safe n p q G s l)
  where
    by : (r : Ratio) → Reaches c r → Safe r (p s) (q s * G) → c ≤ or_none r
    by none f g = absurd (omega arith)
    by (ratio d) f g = f

-- a state at which one more than the cap is too much caps the drop
pub drop-capped : (n : ℕ) (p q : ℕ → ℕ) (G cap s : ℕ) → s < n → q s * G < (cap + 1) * p s → or_none (smallest n p q G) ≤ cap
drop-capped n p q G cap s l h =
    let k : or_none (smallest n p q G) < cap + 1 = NatL.lt_of_mul-lt-mul_right (p s) (omega (arith, drop-below n p q G s l)) in omega arith

-- Where a state has the least quotient q / p, compared by cross products, the drop is read off there.
-- At most: the drop times p(s) is at most q(s) × G. At least: d = q(s) × G / p(s) rounded down has d × p(s) ≤ q(s) × G, so at any state s'
-- d × p(s') × p(s) ≤ q(s) × p(s') × G ≤ q(s') × p(s) × G; divide by p(s), and `drop-greatest` applies. Qed.
pub drop-cross : (n : ℕ) (p q : ℕ → ℕ) (G s : ℕ) → s < n → 0 < p s → ((s' : ℕ) → s' < n → q s * p s' ≤ q s' * p s)
    → or_none (smallest n p q G) ≡ q s * G / p s
drop-cross n p q G s l k h =
    NatL.le_antisymm ((NatL.le-div_iff_mul-le k).1 (drop-below n p q G s l))
    (drop-greatest (q s * G / p s) n p q G (below (q s * G / p s) (NatL.div-mul-le_self (q s * G) (p s))) s l k)
  where
    below : (d : ℕ) → d * p s ≤ q s * G → (s' : ℕ) → s' < n → d * p s' ≤ q s' * G
    below d f s' l' =
        NatL.le_of_mul-le-mul_right {k = p s} (omega (arith, NatL.mul-le-mul_right (p s') f, NatL.mul-le-mul_right G (h s' l'))) k
