-- Laws for callers: the ceiling over storage is the ceiling of the level that is stored, and the gains of a level within its limits are small enough for it.
-- Assumes nothing.
use Rattle.integers.proofs.Kit.{◌≡◌, refl, ap, sym, List, ℕ, ◌≤◌, ◌<◌, suc, zero, arith, get_or, ℤ, pos, negsuc, ◌-ℤ◌}
use Rattle.integers.proofs.Sums.{largest_to-cong}
use Rattle.tables.specs.Limits.{max_states}
use Rattle.tables.specs.Storage.{weight_in}
use Rattle.plans.specs.Level.{product, smallest, or_none, drop, gain, ceiling}
use Rattle.levels.specs.Storage.{corner_in, point_in, roof_in}
use Rattle.sawtooth.specs.Steps.{positive, gain_in, drop_in, ceiling_in, CornersFit, PointsFit, ValuesFit, max_gain}
use Rattle.sawtooth.proofs.Laws.{drop-limit, gain-limit, positive-limit}

-- ---- the ceiling
-- without a gain there is no drop
no_drop : (n : ℕ) (p q : ℕ → ℕ) → 0 ≡ or_none (smallest n p q 0)
no_drop n p q = omega (arith, drop-limit 0 n p q 0 (λ s l. omega arith))

-- The drop is the smallest ratio at the positive part of the gain: of a gain above 0 by definition, and with a gain of 0 each ratio is 0. Qed.
pub drop-positive : (n : ℕ) (p q : ℕ → ℕ) (z : ℤ) → drop n p q z ≡ or_none (smallest n p q (positive z))
unfolding drop
drop-positive n p q (pos zero) = no_drop n p q
drop-positive n p q (pos (suc G)) = refl
drop-positive n p q (negsuc G) = no_drop n p q

pub ceiling-is : (n : ℕ) (corners : List ℤ) (points : ℕ) (weights : List ℕ) (values : List ℤ) (gains q : List ℕ)
    → ((i : ℕ) → i < points → get_or gains i 0 ≡ positive (gain_in n corners weights values i))
    → ceiling_in n corners weights gains points q ≡ ceiling n (roof_in n corners points weights values) (weight_in q)
unfolding ceiling_in ceiling drop_in gain gain_in
ceiling-is n corners points weights values gains q h =
    ap (λ (d : ℕ). product n (weight_in q) (corner_in corners) -ℤ pos d)
    (largest_to-cong points _ _ (λ i b. rw (h i b) (sym (drop-positive n (point_in n weights i) (weight_in q) _))))

-- ---- the gains
pub gains-limit : {n points : ℕ} {corners values : List ℤ} {weights : List ℕ} → CornersFit n corners → PointsFit n points weights → ValuesFit points values
    → n ≤ max_states → (i : ℕ) → i < points → positive (gain_in n corners weights values i) ≤ max_gain
unfolding gain_in
gains-limit {n} {corners} {values} {weights} c p v few i l =
    let z = product n (point_in n weights i) (corner_in corners) -ℤ get_or values i (pos 0) in
    omega (arith, positive-limit z, gain-limit (point_in n weights i) (get_or values i (pos 0)) few c (p.weight i l) (v.value i l))
