-- The backup at weights over storage: it is the backup of the level that is stored, and nothing overflows on the way. Assumes nothing.
--
-- In order: sums; weight 1 on one state; the weights of a point, filled up to the size of an array; ceilings at the successor weights, as a loop adds them
-- up; the parts of a backup over storage, of weights that total at most max_total; what each action allows at some weights, under the ceiling of a level;
-- the corners and points of a level within its limits, in storage.
use Rattle.integers.proofs.Kit.{◌≡◌, ◌∙◌, refl, ap, List, ℕ, ◌≤◌, ◌<◌, ◌+◌, ◌*◌, suc, zero, ◌^◌, arith, length, get_or, replicate, set, length-replicate, ℤ}
use Rattle.integers.proofs.Kit.{pos, nat_abs, ◌+ℤ◌, negsuc}
use native.Mathlib.Nat as NatL
use lib.ListN.{length-set}
use Rattle.integers.specs.Whole.{◌·◌, sum_to, total_to, Below}
use Rattle.integers.specs.Cells.{padded}
use Rattle.integers.proofs.Lists.{padded-at, padded-length, filled-below}
use Rattle.integers.proofs.Parts.{up, dn, add_parts, abs-parts}
use Rattle.integers.proofs.Sizes.{abs-times, sum-weighed}
use Rattle.integers.proofs.Terms.{Terms, terms-limit}
use Rattle.integers.proofs.Sums.{sum-cong, sum_more, total-cong, total-part, total-fewer}
use Rattle.tables.specs.declared.Counts.{Counts}
use Rattle.tables.specs.Limits.{max_states, max_actions, max_weight, max_reward, one, K, max_levels}
use Rattle.tables.specs.Model.{successor, expected_reward}
use Rattle.tables.specs.Storage.{weight_in, reward_in, model_in}
use Rattle.sums.specs.Steps.{moved_in, seen_in, expected_in, TransitionsFit, RewardsFit, moved_limit}
use Rattle.sums.proofs.Regroup.{moved-successor, expected-is, moved-limit}
use Rattle.plans.specs.Limits.{max_points, max_total, max_reached, range}
use Rattle.plans.specs.Level.{Level, ceiling, backup_at, corner_weight, IsPoint}
use Rattle.plans.proofs.Agreement.{ceiling-weights, backup_at-weights}
use Rattle.plans.proofs.Ceiling.{corner-total}
use Rattle.plans.proofs.Built.{successor-total, successor-limit, ceiling-range}
use Rattle.levels.specs.Storage.{point_in, roof_in}
use Rattle.sawtooth.specs.Steps.{positive, gain_in, ceiling_in, CornersFit, PointsFit, ValuesFit, max_gain}
use Rattle.sawtooth.proofs.Joined.{ceiling-is, gains-limit}
use Rattle.backups.specs.Steps.{successors_in, backup_at_in, max_ahead, Ahead, RoofFits, Roof, CeilingOf, Allowed, Light, Roofed}

-- ---- sums
abs-second : (B : ℕ) (a b : ℤ) → nat_abs a ≤ B → nat_abs (a +ℤ b) ≤ B → nat_abs b ≤ B + B
abs-second B a b h k = by_sign b (omega (arith, add_parts a b, abs-parts a, abs-parts (a +ℤ b)))
  where
    by_sign : (z : ℤ) → (up z ≤ B + B + dn z) × (dn z ≤ B + B + up z) → nat_abs z ≤ B + B
    by_sign (pos n) h = omega arith
    by_sign (negsuc n) h = omega arith

-- a term, by the sums before and after it
pub sum-next : (B : ℕ) (f : ℕ → ℤ) (i : ℕ) → nat_abs (sum_to i f) ≤ B → nat_abs (sum_to (i + 1) f) ≤ B → nat_abs (f i) ≤ B + B
sum-next B f i h k = abs-second B (sum_to i f) (f i) h (rw (sum_more i f) at k)

-- ---- weight 1 on one state
zeros : (size i : ℕ) → ◌≡◌ {A = ℕ} (get_or (replicate size 0) i 0) 0
zeros zero i = refl
zeros (suc size) zero = refl
zeros (suc size) (suc i) = zeros size i

pub corner-weights-are : (size s : ℕ) → s < size → (i : ℕ) → get_or (set (replicate size 0) s 1) i 0 ≡ corner_weight s i
unfolding corner_weight
corner-weights-are zero s l i = absurd (omega arith)
corner-weights-are (suc size) zero l zero = refl
corner-weights-are (suc size) zero l (suc i) = zeros size i
corner-weights-are (suc size) (suc s) l zero = refl
corner-weights-are (suc size) (suc s) l (suc i) = corner-weights-are size s (omega arith) i

-- of weights that are this in storage
corner-long : (s : ℕ) {p : List ℕ} → p ≡ set (replicate max_states 0) s 1 → length p ≡ max_states
corner-long s e = rw e (length-set (replicate max_states 0) s 1 ∙ length-replicate {A = ℕ} max_states 0)

module _ {s : ℕ} {p : List ℕ} (e : p ≡ set (replicate max_states 0) s 1) where
  pub corner-at : s < max_states → (i : ℕ) → weight_in p i ≡ corner_weight s i
  corner-at l i = rw e (corner-weights-are max_states s l i)

  pub corner-light : {n : ℕ} → s < n → n ≤ max_states → Light n p
  corner-light {n} l few = record {
    long = rw (corner-long s e) few;
    light = omega (arith, total-cong n (weight_in p) (corner_weight s) (λ i b. corner-at (omega arith) i), corner-total n s l);
  }

-- ---- the weights of a point, filled up to the size of an array
module _ (n : ℕ) (weights : List ℕ) (i : ℕ) {p : List ℕ} (e : p ≡ padded 0 max_states n (point_in n weights i)) where
  pub point_at : (s : ℕ) → s < n → weight_in p s ≡ point_in n weights i s
  point_at s l = rw e (padded-at 0 max_states n (point_in n weights i) s 0 l)

  point-long : n ≤ max_states → length p ≡ max_states
  point-long few = rw e (padded-length 0 max_states n (point_in n weights i) few)

  pub point-light : n ≤ max_states → IsPoint n (point_in n weights i) → Light n p
  point-light few t = record {
    long = rw (point-long few) few;
    light = omega (arith, total-cong n (weight_in p) (point_in n weights i) point_at);
  }

-- ---- ceilings at the successor weights, as a loop adds them up
abbrev pub ahead_at : ℕ → ℕ → List ℕ → List ℕ → (List ℕ → ℤ) → ℕ → ℕ → ℤ
ahead_at n k observation moved roof a o = roof (padded 0 max_states n (seen_in n k observation moved a o))

module _ {n k a : ℕ} {observation moved : List ℕ} {roof : List ℕ → ℤ} (h : Ahead n k observation moved roof a) (o : ℕ) (l : o < k) where
  pub ahead-below : {q : List ℕ} → q ≡ padded 0 max_states n (seen_in n k observation moved a o) → n ≤ max_states → Below max_reached n q
  ahead-below e few = filled-below max_states (seen_in n k observation moved a o) e few (h.reached o l)

  pub ahead-fits : {sum x : ℤ} → sum ≡ sum_to o (ahead_at n k observation moved roof a) → x ≡ ahead_at n k observation moved roof a o
      → nat_abs sum + nat_abs x < 2 ^ 63
  ahead-fits e f =
      let so_far = h.ceilings o (omega arith) in
      rw (e, f) (omega (arith, sum-next max_ahead (ahead_at n k observation moved roof a) o so_far (h.ceilings (o + 1) (omega arith))))

-- ---- the parts of a backup over storage, of weights that total at most max_total
pub light-below : {n : ℕ} {p : List ℕ} → Light n p → Below max_total n p
light-below {n} {p} h = record { long = h.long; below = λ s l. omega (arith, h.light, total-part n (weight_in p) s l) }

pub weights-below : {n : ℕ} {p : List ℕ} → Below max_total n p → Below max_weight n p
weights-below light = record { long = light.long; below = λ s l. omega (arith, light.below s l) }

module _ {n a : ℕ} {p : List ℕ} (few : n ≤ max_states) (light : Below max_total n p) where
  pub moved-below : {transition u : List ℕ} → TransitionsFit n transition a → u ≡ padded 0 max_states n (moved_in n transition p a) → Below moved_limit n u
  moved-below {transition} fit e = filled-below max_states (moved_in n transition p a) e few (λ s l. moved-limit fit (weights-below light) l few)

  module _ {reward : List ℤ} (fit : RewardsFit n reward a) where
    expected-limit : nat_abs (expected_in n reward p a) ≤ max_states * (max_total * max_reward)
    unfolding expected_in
    expected-limit =
        let t : Terms n max_total max_reward (weight_in p) (λ s. reward_in n reward s a) = record { weights = light.below; values = fit.reward } in
        omega (arith, terms-limit t n (omega arith))

    pub expected-fits : {x : ℤ} → x ≡ expected_in n reward p a → K * nat_abs x < 2 ^ 63
    unfolding K
    expected-fits e = rw e (omega (arith, expected-limit))

    -- the two parts fit 64 bits together
    pub parts-fit : {g k : ℕ} {observation moved : List ℕ} {roof : List ℕ → ℤ} {x y : ℤ} → g ≤ one → Ahead n k observation moved roof a
        → x ≡ K · expected_in n reward p a → y ≡ sum_to k (ahead_at n k observation moved roof a) → nat_abs x + g * nat_abs y < 2 ^ 63
    unfolding K
    parts-fit {k} less ahead e f =
        rw (e, f)
        (omega (arith, expected-limit, abs-times K (expected_in n reward p a), NatL.mul-le-mul less (ahead.ceilings k (omega arith))))

module _ (c : Counts) (T O : List ℕ) (R : List ℤ) (p : List ℕ) (a o : ℕ) where
  -- over storage they are the model's
  pub seen-is : (s' : ℕ) → s' < c.states
      → seen_in c.states c.observations O (padded 0 max_states c.states (moved_in c.states T p a)) a o s'
      ≡ successor (model_in c T O R) (weight_in p) a o s'
  seen-is s' l = rw (padded-at 0 max_states c.states (moved_in c.states T p a) s' 0 l) (moved-successor c T O R p a o s')

  pub successors-are : (s' : ℕ) → s' < c.states
      → weight_in (successors_in c.states c.observations T O p a o) s' ≡ successor (model_in c T O R) (weight_in p) a o s'
  successors-are s' l = padded-at 0 max_states c.states _ s' 0 l ∙ seen-is s' l

-- ---- what each action allows at some weights, under the ceiling of a level
module _ (c : Counts) (T O : List ℕ) (R : List ℤ) (p : List ℕ) (a : ℕ) {roof : List ℕ → ℤ} (L : Level) (is : CeilingOf c.states roof L) where
  roof-at : (o : ℕ)
      → roof (successors_in c.states c.observations T O p a o) ≡ ceiling c.states L (successor (model_in c T O R) (weight_in p) a o)
  roof-at o = is _ ∙ ceiling-weights c.states L _ _ (successors-are c T O R p a o)

  backup-at-is : backup_at_in c T O R roof p a ≡ backup_at (model_in c T O R) L (weight_in p) a
  unfolding backup_at_in backup_at
  backup-at-is =
      rw (expected-is c T O R p a)
      (ap (λ (z : ℤ). K · expected_reward (model_in c T O R) (weight_in p) a +ℤ c.discount · z) (sum-cong c.observations _ _ (λ o b. roof-at o)))

-- of weights that p lists
pub allowed : {c : Counts} {T O : List ℕ} {R : List ℤ} {roof : List ℕ → ℤ} (p : List ℕ) {p' : ℕ → ℕ} {backups : List ℤ}
    → ((s : ℕ) → s < c.states → weight_in p s ≡ p' s) → backups ≡ padded (pos 0) max_actions c.actions (backup_at_in c T O R roof p)
    → Allowed c T O R roof p' backups
allowed {c} {T} {O} {R} p same listed = record {
  backup = λ L is a la.
      rw listed (padded-at (pos 0) max_actions c.actions _ a (pos 0) la)
      ∙ backup-at-is c T O R p a L is ∙ backup_at-weights (model_in c T O R) L (weight_in p) _ a same;
}

-- ---- the corners and points of a level within its limits, in storage
module _ {c : Counts} {T O : List ℕ} {R corners : List ℤ} {points : ℕ} {weights : List ℕ} {values : List ℤ}
    (h : Roofed c T O R corners points weights values) where
  pub corners_fit : CornersFit c.states corners
  unfolding range
  corners_fit = record { long = h.corners_long; corner = h.shaped.corner_fits }

  pub points_fit : PointsFit c.states points weights
  points_fit = record {
    few = h.shaped.few_points;
    stored = h.points_stored;
    weight = λ i b s r. omega (arith, total-part c.states (point_in c.states weights i) s r, h.shaped.total i b);
  }

  pub values-fit : ValuesFit points values
  unfolding range
  values-fit = record {
    long = h.values_long;
    value = λ i b. NatL.le_trans (h.shaped.value_fits i b) (NatL.mul-le-mul_right (range max_levels) (h.shaped.total i b).1);
  }

  module _ {gains : List ℕ} (made : gains ≡ padded 0 max_points points (λ i. positive (gain_in c.states corners weights values i))) where
    -- the ceiling over storage, at any weights
    abbrev roof : List ℕ → ℤ
    roof = ceiling_in c.states corners weights gains points

    -- the level that it is the ceiling of
    abbrev level : Level
    level = roof_in c.states corners points weights values

    gained : (i : ℕ) → i < points → get_or gains i 0 ≡ positive (gain_in c.states corners weights values i)
    gained i b = rw made (padded-at 0 max_points points _ i 0 b)

    pub roof-is : CeilingOf c.states roof level
    roof-is q = ceiling-is c.states corners points weights values gains q gained

    pub gains-below : Below max_gain points gains
    gains-below =
        filled-below max_points _ made h.shaped.few_points (gains-limit corners_fit points_fit values-fit h.valid.few_states)

    module _ (p : List ℕ) (a : ℕ) where
      -- the ceiling at the successor weights
      abbrev ahead : ℕ → ℤ
      ahead o = roof (successors_in c.states c.observations T O p a o)

      -- all that is reached with an observation
      abbrev reached : ℕ → ℕ
      reached o = total_to c.states (successor (model_in c T O R) (weight_in p) a o)

      roof-limit : (o : ℕ) → nat_abs (ahead o) ≤ reached o * range max_levels
      roof-limit o =
          rw (roof-at c T O R p a level roof-is o)
          (ceiling-range (model_in c T O R) level max_levels h.shaped (successor (model_in c T O R) (weight_in p) a o))

    -- Nothing overflows in a backup at weights that total at most max_total.
    -- The ceilings so far lie within what is reached so far times the range (`ceiling-range`), and all that is reached is one × one times the total of p
    -- (`successor-total`). Qed.
    roof-fits : (p : List ℕ) → total_to c.states (weight_in p) ≤ max_total → (a : ℕ) → a < c.actions
        → RoofFits c.states c.observations T O roof p a
    unfolding range
    roof-fits p light a la = record {
      reached = λ o lo s ls. omega (arith, seen-is c T O R p a o s ls, successor-limit (model_in c T O R) h.valid (weight_in p) a o s la lo ls);
      ceilings = λ j b. omega (
        arith,
        sum-weighed j (range max_levels) (reached p a) (ahead p a) (λ o lo. roof-limit p a o),
        total-fewer j c.observations (reached p a) b,
        successor-total (model_in c T O R) h.valid (weight_in p) a la,
      );
    }

    pub roof-holds : Roof c T O R corners weights gains points
    roof-holds = record {
      valid = h.valid;
      stored = h.stored;
      corners_fit = corners_fit;
      points_fit = points_fit;
      gains_fit = gains-below;
      fits = roof-fits;
    }
