-- Laws for the sawtooth's loops: the least quotient q / p found by cross products and the drop read off it, points that cannot beat the largest drop so
-- far, and how large drops and gains are. Assumes nothing.
--
-- In order: the least quotient; the largest drop; sizes; the corners, as they are handed to a product; the positive part, by the test z < 0; the weights
-- of a point.
use Rattle.integers.proofs.Kit.{◌≡◌, ◌∙◌, refl, ap, sym, true, false, Bool, ◌&&◌, List, ℕ, ◌≤◌, ◌<◌, ◌+◌, ◌*◌, suc, zero, ◌/◌, arith, leb, T, length}
use Rattle.integers.proofs.Kit.{get_or, ℤ, pos, nat_abs, negsuc, ◌-ℤ◌, lt_z}
use native.Mathlib.Nat as NatL
use borrow.Author.Count.{below_more}
use borrow.Author.Tests.{leb-false}
use lib.Signed.{non_neg}
use Rattle.integers.specs.Whole.{largest_to, Below}
use Rattle.integers.specs.Search.{every}
use Rattle.integers.specs.Cells.{padded}
use Rattle.integers.proofs.Lists.{row_below, padded-at, padded-length}
use Rattle.integers.proofs.Parts.{is_T, lt_z-true, lt_z-false}
use Rattle.integers.proofs.Sizes.{abs-sub}
use Rattle.integers.proofs.Sums.{largest-ind, largest-more}
use Rattle.integers.proofs.Terms.{Terms, terms-limit}
use Rattle.tables.specs.Limits.{max_states, max_entry}
use Rattle.tables.specs.Storage.{row_start, weight_in}
use Rattle.plans.specs.Limits.{max_total, max_reached}
use Rattle.plans.specs.Level.{Ratio, none, ratio, joined, smallest, or_none, product}
use Rattle.plans.proofs.Agreement.{product-cong}
use Rattle.plans.proofs.Drops.{drop-capped, drop-cross}
use Rattle.levels.specs.Storage.{corner_in, point_in}
use Rattle.sawtooth.specs.Steps.{positive, gain_in, drop_in, CornersFit, PointsFit, max_gain}

-- ---- the least quotient
factor-positive : (x y z : ℕ) → x < y * z → 0 < z
factor-positive x y zero h = omega arith
factor-positive x y (suc z) h = omega arith

module _ (p q : ℕ → ℕ) where
  -- top / under is the least q(t) / p(t) of the states t below s with weight; 1 / 0 where there is none
  pub data Least (s top under : ℕ) : Type 0 where
    unset : top ≡ 1 → under ≡ 0 → ((t : ℕ) → t < s → p t ≡ 0) → Least s top under
    found : (t : ℕ) → t < s → 0 < p t → top ≡ q t → under ≡ p t → ((t' : ℕ) → t' < s → q t * p t' ≤ q t' * p t) → Least s top under

  pub least_start : Least 0 1 0
  least_start = unset refl refl (λ t l. absurd (omega arith))

  -- A state whose quotient is below the least so far is the least: q(s) / p(s) < q(t) / p(t) ≤ q(t') / p(t'), as cross products times p(t), which is
  -- above 0. Qed.
  pub least-taken : {s top under top' under' : ℕ} → Least s top under → q s * under < top * p s → top' ≡ q s → under' ≡ p s → Least (s + 1) top' under'
  least-taken {s} {top} {under} (unset a b f) h i j =
      found s (omega arith) (factor-positive (q s * under) top (p s) h) i j
      (below_more (λ t'. q s * p t' ≤ q t' * p s) s (λ t' l. rw (f t' l) (omega arith)) (omega arith))
  least-taken {s} {top} {under} (found t l k a b f) h i j =
      found s (omega arith) (factor-positive (q s * under) top (p s) h) i j
      (below_more (λ t'. q s * p t' ≤ q t' * p s) s (λ t' l'. below t' (f t' l') (rw (a, b) at h)) (omega arith))
    where
      below : (t' : ℕ) → q t * p t' ≤ q t' * p t → q s * p t < q t * p s → q s * p t' ≤ q t' * p s
      below t' g h =
          NatL.le_of_mul-le-mul_right {k = p t}
          (omega (arith, NatL.mul-le-mul_right (p t') (let e : q s * p t ≤ q t * p s = omega arith in e), NatL.mul-le-mul_right (p s) g)) k

  pub least-left : {s top under top' under' : ℕ} → Least s top under → top * p s ≤ q s * under → top' ≡ top → under' ≡ under → Least (s + 1) top' under'
  least-left {s} {top} {under} (unset a b f) h i j =
      unset (i ∙ a) (j ∙ b) (below_more (λ t. p t ≡ 0) s f (omega (arith, rw (a, b) at h)))
  least-left {s} {top} {under} (found t l k a b f) h i j =
      found t (omega arith) k (i ∙ a) (j ∙ b) (below_more (λ t'. q t * p t' ≤ q t' * p t) s f (rw (a, b) at h))

  pub least-limits : {P Q s n top under : ℕ} → Least s top under → s ≤ n → ((t : ℕ) → t < n → p t ≤ P) → ((t : ℕ) → t < n → q t ≤ Q) → 1 ≤ Q
      → (top ≤ Q) × (under ≤ P)
  least-limits (unset a b f) l h k o = (omega arith, omega arith)
  least-limits (found t l' g a b f) l h k o = (omega (arith, k t (omega arith)), omega (arith, h t (omega arith)))

  -- no state has weight: there is no ratio
  smallest-none : (n G : ℕ) → ((t : ℕ) → t < n → p t ≡ 0) → smallest n p q G ≡ none
  unfolding smallest joined
  smallest-none zero G h = refl
  smallest-none (suc n) G h = rw (h n (omega arith)) (smallest-none n G (λ t l. h t (omega arith)))

  pub least-none : {n top under : ℕ} (G : ℕ) → Least n top under → under ≡ 0 → or_none (smallest n p q G) ≡ 0
  unfolding or_none
  least-none {n} G (unset a b f) e = rw (smallest-none n G f)
  least-none G (found t l k a b f) e = absurd (omega arith)

  pub least-drop : {n top under : ℕ} (G : ℕ) → Least n top under → (under ≡ 0 → ⊥) → or_none (smallest n p q G) ≡ top * G / under
  least-drop G (unset a b f) e = absurd (e b)
  least-drop {n} G (found t l k a b f) e = rw (a, b) (drop-cross n p q G t l k f)

-- ---- the largest drop
record Failing (n : ℕ) (p : ℕ → Bool) : Type 0 where
  index : ℕ
  below : index < n
  fails : p index ≡ false

every-false : (n : ℕ) (p : ℕ → Bool) → every n p ≡ false → Failing n p
unfolding every
every-false zero p e = absurd (is_T (sym e))
every-false (suc n) p e = by (every n p) (p n) refl refl e (every-false n p)
  where
    by : (a b : Bool) → every n p ≡ a → p n ≡ b → (a && b) ≡ false → (every n p ≡ false → Failing n p) → Failing (suc n) p
    by true true i k e r = absurd (is_T (sym e))
    by true false i k e r = record { index = n; below = omega arith; fails = k }
    by false b i k e r = let f = r i in record { index = f.index; below = omega (arith, f.below); fails = f.fails }

-- A point at which `least` fails, where `least` is at most one more than the best, has a drop that is at most the best: one state caps it. Qed.
not-beaten : (n : ℕ) (p q : ℕ → ℕ) (G best least : ℕ) → least ≤ best + 1 → every n (λ s. leb (least * p s) (q s * G)) ≡ false
    → or_none (smallest n p q G) ≤ best
not-beaten n p q G best least h e =
    let f = every-false n (λ s. leb (least * p s) (q s * G)) e in
    drop-capped n p q G best f.index f.below
    (omega (arith, leb-false (least * p f.index) (q f.index * G) f.fails, NatL.mul-le-mul_right (p f.index) h))

-- the same of a point in storage, by what was answered
pub drop-beaten : (n : ℕ) (weights gains q : List ℕ) (i : ℕ) {least at best : ℕ} {answer : Bool} → at ≡ row_start n i → least ≤ best + 1
    → answer ≡ every n (λ s. leb (least * get_or weights (at + s) 0) (weight_in q s * get_or gains i 0)) → answer ≡ false → drop_in n weights gains q i ≤ best
unfolding drop_in
drop-beaten n weights gains q i {least} {at} {best} starts h e f =
    not-beaten n (point_in n weights i) (weight_in q) (get_or gains i 0) best least h
    (sym (e ∙ ap (λ (z : ℕ). every n (λ s. leb (least * get_or weights (z + s) 0) (weight_in q s * get_or gains i 0))) starts) ∙ f)

pub drop-said : (n : ℕ) (weights gains q : List ℕ) (i : ℕ) {at d : ℕ} → at ≡ row_start n i
    → d ≡ or_none (smallest n (λ s. get_or weights (at + s) 0) (weight_in q) (get_or gains i 0)) → d ≡ drop_in n weights gains q i
unfolding drop_in
drop-said n weights gains q i starts e = e ∙ ap (λ (z : ℕ). or_none (smallest n (λ s. get_or weights (z + s) 0) (weight_in q) (get_or gains i 0))) starts

-- what the best becomes, where the next is at most the best and where it is above
pub largest-kept : (i : ℕ) (f : ℕ → ℕ) {best best' : ℕ} → best ≡ largest_to i f → best' ≡ best → f i ≤ best → best' ≡ largest_to (i + 1) f
largest-kept i f e k h = k ∙ e ∙ sym (largest-more i f ∙ NatL.max-eq_left (rw e at h))

pub largest-new : (i : ℕ) (f : ℕ → ℕ) {best best' d : ℕ} → best ≡ largest_to i f → best' ≡ d → d ≡ f i → best < d → best' ≡ largest_to (i + 1) f
largest-new i f e k g h = k ∙ g ∙ sym (largest-more i f ∙ NatL.max-eq_right (omega arith))

-- ---- sizes
joined-limit : (L : ℕ) (r : Ratio) (x w : ℕ) → or_none r ≤ L → x ≤ L → or_none (joined r x w) ≤ L
unfolding or_none joined
joined-limit L r x zero h k = h
joined-limit L none x (suc w) h k = omega (arith, NatL.div-le_self x (suc w))
joined-limit L (ratio d) x (suc w) h k = omega (arith, NatL.min-le_left d (x / suc w))

pub drop-limit : (L n : ℕ) (p q : ℕ → ℕ) (G : ℕ) → ((s : ℕ) → s < n → q s * G ≤ L) → or_none (smallest n p q G) ≤ L
unfolding smallest or_none
drop-limit L zero p q G h = omega arith
drop-limit L (suc n) p q G h =
    joined-limit L (smallest n p q G) (q n * G) (p n) (drop-limit L n p q G (λ s l. h s (omega arith))) (h n (omega arith))

pub largest-limit : (n points : ℕ) (weights gains q : List ℕ) → Below max_reached n q → Below max_gain points gains
    → largest_to points (drop_in n weights gains q) ≤ max_reached * max_gain
unfolding drop_in
largest-limit n points weights gains q h k =
    largest-ind (λ d. d ≤ max_reached * max_gain) points _ (omega arith)
    (λ i l. drop-limit (max_reached * max_gain) n _ _ _ (λ s b. NatL.mul-le-mul (h.below s b) (k.below i l)))

-- ---- the corners, as they are handed to a product
-- the numbers from cell 0 on
pub first-cells : (n : ℕ) (q : ℕ → ℕ) (corners : List ℤ) → product n q (λ s. get_or corners (0 + s) (pos 0)) ≡ product n q (corner_in corners)
first-cells n q corners = product-cong n q q _ _ (λ s l. refl) (λ s l. let e : 0 + s ≡ s = omega arith in rw e)

pub first-fit : {n : ℕ} {corners : List ℤ} → CornersFit n corners → (s : ℕ) → s < n → nat_abs (get_or corners (0 + s) (pos 0)) ≤ max_entry
first-fit f s l = let e : 0 + s ≡ s = omega arith in rw e (f.corner s l)

-- a product with corners within their limits
pub product-limit : {n : ℕ} {corners : List ℤ} (W : ℕ) (p : ℕ → ℕ) → n ≤ max_states → CornersFit n corners → ((s : ℕ) → s < n → p s ≤ W)
    → nat_abs (product n p (corner_in corners)) ≤ max_states * (W * max_entry)
unfolding product
product-limit {n} {corners} W p l h k =
    let t : Terms n W max_entry p (corner_in corners) = record { weights = k; values = h.corner } in
    omega (arith, terms-limit t n (omega arith), NatL.mul-le-mul_right (W * max_entry) l)

module _ {n : ℕ} {corners : List ℤ} (p : ℕ → ℕ) (value : ℤ) (few : n ≤ max_states) (fit : CornersFit n corners) (small : (s : ℕ) → s < n → p s ≤ max_total)
    (within : nat_abs value ≤ max_total * max_entry) where
  pub gain-parts : nat_abs (product n p (corner_in corners)) + nat_abs value ≤ max_gain
  gain-parts = omega (arith, product-limit max_total p few fit small)

  pub gain-limit : nat_abs (product n p (corner_in corners) -ℤ value) ≤ max_gain
  gain-limit = omega (arith, abs-sub (product n p (corner_in corners)) value, gain-parts)

pub positive-limit : (z : ℤ) → positive z ≤ nat_abs z
positive-limit (pos g) = omega arith
positive-limit (negsuc g) = omega arith

-- ---- the positive part, by the test z < 0
pub positive-below : (z : ℤ) → lt_z z (pos 0) ≡ true → 0 ≡ positive z
positive-below (pos g) e = absurd (omega (arith, lt_z-true (pos g) (pos 0) e))
positive-below (negsuc g) e = refl

pub positive-from : (z : ℤ) → lt_z z (pos 0) ≡ false → T (non_neg z) × (nat_abs z ≡ positive z)
positive-from (pos g) e = (tt, refl)
positive-from (negsuc g) e = absurd (omega (arith, lt_z-false (negsuc g) (pos 0) e))

-- ---- the weights of a point
pub point-inside : (i n : ℕ) {points at : ℕ} {weights : List ℕ} → PointsFit n points weights → i < points → at ≡ row_start n i → at + n ≤ length weights
point-inside i n {points} fit l starts = rw starts (omega (arith, row_below i points n l, fit.stored))

pub point-within : (i n : ℕ) {points at : ℕ} {weights : List ℕ} → PointsFit n points weights → i < points → at ≡ row_start n i
    → (s : ℕ) → s < n → get_or weights (at + s) 0 ≤ max_total
point-within i n fit l starts s b = rw starts (fit.weight i l s b)

-- filled up to the size of an array
module _ (n i : ℕ) (weights p : List ℕ) (filled : p ≡ padded 0 max_states n (point_in n weights i)) where
  pub filled-below : {points : ℕ} → PointsFit n points weights → i < points → n ≤ max_states → Below max_total n p
  filled-below f l few = record {
    long = rw (filled, padded-length 0 max_states n (point_in n weights i) few) few;
    below = λ s k. rw (filled, padded-at 0 max_states n (point_in n weights i) s 0 k) (f.weight i l s k);
  }

  pub filled-gain : (corners values : List ℤ) {v : ℤ} {r : ℕ} → v ≡ get_or values i (pos 0) → r ≡ positive (product n (weight_in p) (corner_in corners) -ℤ v)
      → r ≡ positive (gain_in n corners weights values i)
  unfolding gain_in
  filled-gain corners values e g =
      g ∙ rw (
        e,
        product-cong n (weight_in p) (point_in n weights i) (corner_in corners) (corner_in corners)
            (λ s k. rw filled (padded-at 0 max_states n (point_in n weights i) s 0 k)) (λ s k. refl),
      )
