-- The bits of masks: those of what is made state by state, and what an operation on all bits at once says of them. Assumes nothing.
--
--   bits-same          numbers below 2 ^ k with the same bits are the same
--   mask_below         a mask of states below n is below 2 ^ n
--   mask-covers        it has the states that it was made of
--   mask-none, mask-with, mask-without   as a loop makes it
--   mask-cong          masks of the same states are the same
--   mask-all           that of all states is 2 ^ n - 1
--   mask-doubled       and twice that of all but the last, and 1
--   ones-covers        the mask 2 ^ k - 1 covers each state below k
--   mask_narrowed      that of a mask's own states below n is what is left of it below 2 ^ n
--   includes-covers    a mask covers each of the states that it has
--   includes-every     one mask has each of the states of another
use Rattle.integers.proofs.Kit.{◌≡◌, ◌∙◌, refl, ap, sym, true, false, Bool, cond, ◌||◌, ℕ, ◌≤◌, ◌<◌, ◌+◌, ◌*◌, ◌-◌, suc, zero, ◌^◌, ◌/◌, ◌%◌, arith}
use Rattle.integers.proofs.Kit.{add-one, add-zero, dec_lt, eqb, eq-eqb, ne_eqb, eqb-true}
use mathlib.Core.Bool.{not}
use Prim.Native.Nat.{min}
use native.Mathlib.Nat as NatL
use lib.Bits.{bit_and, and_step, and_le_r, and_shr}
use lib.Pow.{pow_pos, pow-add, split, shr-shr, high, shr_lt}
use Rattle.integers.specs.Whole.{total_to}
use Rattle.integers.specs.Search.{every}
use Rattle.integers.proofs.Parts.{is_T}
use Rattle.integers.proofs.Sums.{total-cong}
use Rattle.integers.proofs.Searches.{every-at, at_every}
use Rattle.masks.specs.Masks.{covered, mask_of}
use Rattle.masks.specs.Steps.{includes}

-- bit s
abbrev bit : ℕ → ℕ → ℕ
bit a s = a / 2 ^ s % 2

bit-small : (a s : ℕ) → bit a s < 2
bit-small a s = NatL.mod-lt (a / 2 ^ s) (omega arith)

-- ---- numbers by their bits
pub bits-same : (k a b : ℕ) → a < 2 ^ k → b < 2 ^ k → ((s : ℕ) → s < k → bit a s ≡ bit b s) → a ≡ b
bits-same zero a b la lb h = omega arith
bits-same (suc k) a b la lb h = omega (
  arith,
  NatL.div-add-mod' a 2,
  NatL.div-add-mod' b 2,
  h 0 (omega arith),
  bits-same k (a / 2) (b / 2) (shr_lt k 1 (rw add-one la)) (shr_lt k 1 (rw add-one lb)) (λ s l. half a s ∙ h (suc s) (omega arith) ∙ sym (half b s)),
)
  where
    half : (x s : ℕ) → bit (x / 2) s ≡ bit x (suc s)
    half x s = ap (λ (y : ℕ). y % 2) (shr-shr x 1 s ∙ ap (λ (e : ℕ). x / 2 ^ e) (omega arith))

-- bits of what lies above them do not matter
bit-above : (m b s d : ℕ) → bit (m + b * 2 ^ (s + suc d)) s ≡ bit m s
bit-above m b s d =
    ap (λ (x : ℕ). x % 2) (ap (λ (x : ℕ). (m + x) / 2 ^ s) apart ∙ NatL.add-mul-div_right m (b * 2 ^ d * 2) (pow_pos s))
    ∙ NatL.add-mul-mod_self_right (m / 2 ^ s) (b * 2 ^ d) 2
  where
    apart : b * 2 ^ (s + suc d) ≡ b * 2 ^ d * 2 * 2 ^ s
    apart = rw (pow-add 2 s (suc d), NatL.pow-suc) (omega arith)

-- ---- a mask that is made state by state
unit : Bool → ℕ
unit b = cond b 1 0

mask_step : (n : ℕ) (f : ℕ → Bool) → mask_of (suc n) f ≡ mask_of n f + unit (f n) * 2 ^ n
unfolding mask_of total_to unit
mask_step n f = ap (λ (x : ℕ). mask_of n f + x) (by (f n))
  where
    by : (b : Bool) → cond b (2 ^ n) 0 ≡ cond b 1 0 * 2 ^ n
    by true = omega arith
    by false = omega arith

-- as a loop makes it
pub mask-none : (f : ℕ → Bool) → mask_of 0 f ≡ 0
unfolding mask_of total_to
mask-none f = refl

pub mask-with : (n : ℕ) (f : ℕ → Bool) {m : ℕ} → m ≡ mask_of n f → f n ≡ true → m + 2 ^ n ≡ mask_of (n + 1) f
unfolding mask_of total_to
mask-with n f e h = rw (add-one, h, e)

pub mask-without : (n : ℕ) (f : ℕ → Bool) {m : ℕ} → m ≡ mask_of n f → f n ≡ false → m ≡ mask_of (n + 1) f
unfolding mask_of total_to
mask-without n f e h = rw (add-one, h, e, add-zero)

unit-small : (b : Bool) → unit b ≤ 1
unfolding unit
unit-small true = omega arith
unit-small false = omega arith

pub mask_below : (n : ℕ) (f : ℕ → Bool) → mask_of n f < 2 ^ n
unfolding mask_of total_to
mask_below zero f = omega arith
mask_below (suc n) f =
    rw (mask_step n f, NatL.pow-suc) (omega (arith, mask_below n f, NatL.mul-le-mul_right (2 ^ n) (unit-small (f n))))

unit-bit : (b : Bool) → eqb (unit b % 2) 1 ≡ b
unfolding unit
unit-bit true = refl
unit-bit false = refl

pub mask-covers : (n : ℕ) (f : ℕ → Bool) (s : ℕ) → s < n → covered (mask_of n f) s ≡ f s
unfolding covered
mask-covers zero f s l = absurd (omega arith)
mask-covers (suc n) f s l = rw (mask_step n f) (by (dec_lt s n) (λ h. mask-covers n f s h))
  where
    by : Dec (s < n) → (s < n → eqb (bit (mask_of n f) s) 1 ≡ f s) → eqb (bit (mask_of n f + unit (f n) * 2 ^ n) s) 1 ≡ f s
    by (yes h) r =
        let e : n ≡ s + suc (n - s - 1) = omega arith in
        ap (λ (x : ℕ). eqb x 1) (ap (λ (x : ℕ). bit (mask_of n f + unit (f n) * 2 ^ x) s) e ∙ bit-above (mask_of n f) (unit (f n)) s (n - s - 1)) ∙ r h
    by (no h) r =
        let e : s ≡ n = omega arith in
        rw e (ap (λ (x : ℕ). eqb (x % 2) 1) (ap (λ (x : ℕ). x / 2 ^ n) (NatL.add_comm (mask_of n f) (unit (f n) * 2 ^ n))
        ∙ high (unit (f n)) n (mask_below n f)) ∙ unit-bit (f n))

-- only the states below n matter
pub mask-cong : (n : ℕ) (f g : ℕ → Bool) → ((s : ℕ) → s < n → f s ≡ g s) → mask_of n f ≡ mask_of n g
unfolding mask_of
mask-cong n f g h = total-cong n _ _ (λ s l. rw (h s l))

pub mask-all : (n : ℕ) → mask_of n (λ s. true) + 1 ≡ 2 ^ n
unfolding mask_of total_to unit
mask-all zero = refl
mask-all (suc n) = rw NatL.pow-suc (omega (arith, mask-all n))

-- twice the mask of all but the last state, and 1
pub mask-doubled : (n : ℕ) → 0 < n → (2 ^ (n - 1) - 1) * 2 + 1 ≡ mask_of n (λ s. true)
mask-doubled zero h = absurd (omega arith)
mask-doubled (suc n) h = let e : suc n - 1 ≡ n = omega arith in rw e (omega (arith, mask-all (suc n), NatL.pow-suc 2 n, pow_pos n))

-- all bits below k are 1
pub ones-covers : (k s : ℕ) → s < k → covered (2 ^ k - 1) s ≡ true
ones-covers k s l =
    let e : 2 ^ k - 1 ≡ mask_of k (λ s. true) = omega (arith, mask-all k) in
    ap (λ (m : ℕ). covered m s) e ∙ mask-covers k (λ s. true) s l

-- a bit is known by whether it is 1
bit-known : (a b : ℕ) → a < 2 → b < 2 → eqb a 1 ≡ eqb b 1 → a ≡ b
bit-known zero zero la lb e = refl
bit-known zero (suc zero) la lb e = absurd (is_T e)
bit-known (suc zero) zero la lb e = absurd (is_T (sym e))
bit-known (suc zero) (suc zero) la lb e = refl
bit-known (suc (suc a)) b la lb e = absurd (omega arith)
bit-known zero (suc (suc b)) la lb e = absurd (omega arith)
bit-known (suc zero) (suc (suc b)) la lb e = absurd (omega arith)

-- a mask's own states below n
pub mask_narrowed : (n mask : ℕ) → mask_of n (covered mask) ≡ mask % 2 ^ n
unfolding covered
mask_narrowed n mask = bits-same n _ _ (mask_below n (covered mask)) (NatL.mod-lt mask (pow_pos n)) same
  where
    same : (s : ℕ) → s < n → bit (mask_of n (covered mask)) s ≡ bit (mask % 2 ^ n) s
    same s l =
        let d : n ≡ s + suc (n - s - 1) = omega arith in
        bit-known (bit (mask_of n (covered mask)) s) (bit mask s) (bit-small _ s) (bit-small mask s) (mask-covers n (covered mask) s l)
        ∙ ap (λ (x : ℕ). bit x s) (sym (split mask n) ∙ NatL.add_comm (mask / 2 ^ n * 2 ^ n) (mask % 2 ^ n))
        ∙ ap (λ (x : ℕ). bit (mask % 2 ^ n + mask / 2 ^ n * 2 ^ x) s) d ∙ bit-above (mask % 2 ^ n) (mask / 2 ^ n) s (n - s - 1)

-- ---- all bits at once
includes-bit : (mask states s : ℕ) → bit (bit_and mask states) s ≡ min (bit mask s) (bit states s)
includes-bit mask states s =
    ap (λ (x : ℕ). x % 2) (and_shr mask states s ∙ and_step (mask / 2 ^ s) (states / 2 ^ s))
    ∙ NatL.mul-add-mod_self_right (bit_and (mask / 2 ^ s / 2) (states / 2 ^ s / 2)) 2 (min (bit mask s) (bit states s))
    ∙ NatL.mod-eq_of_lt (omega (arith, NatL.min-le_left (bit mask s) (bit states s), bit-small mask s))

-- a mask covers each of the states that it has
pub includes-covers : (mask states s : ℕ) → includes mask states ≡ true → covered states s ≡ true → covered mask s ≡ true
unfolding covered
includes-covers mask states s h c =
    let m : min (bit mask s) (bit states s) ≡ 1
    = sym (includes-bit mask states s) ∙ ap (λ (x : ℕ). bit x s) (eqb-true (bit_and mask states) states h) ∙ eqb-true (bit states s) 1 c in
    eq-eqb (bit mask s) 1 (omega (arith, m, NatL.min-le_left (bit mask s) (bit states s), bit-small mask s))

-- A mask has each of the states that f holds of, exactly when it covers each of them.
-- Where it does, the bits of both together are those of the latter, bit by bit; where they are, each bit of the latter is one of the mask. Qed.
module _ (n mask : ℕ) (f : ℕ → Bool) where
  has : ℕ → Bool
  has s = not (f s) || covered mask s

  each-bit : (s : ℕ) → s < n → has s ≡ true → bit (bit_and mask (mask_of n f)) s ≡ bit (mask_of n f) s
  unfolding has covered
  each-bit s l h = includes-bit mask (mask_of n f) s ∙ by (f s) refl h
    where
      by : (b : Bool) → f s ≡ b → (not b || eqb (bit mask s) 1) ≡ true → min (bit mask s) (bit (mask_of n f) s) ≡ bit (mask_of n f) s
      by true e h =
          let a : bit mask s ≡ 1 = eqb-true _ _ h in
          let b : bit (mask_of n f) s ≡ 1 = eqb-true _ _ (mask-covers n f s l ∙ e) in
          rw (a, b) refl
      by false e h =
          let z : bit (mask_of n f) s ≡ 0 = bit-known _ 0 (bit-small _ s) (omega arith) (mask-covers n f s l ∙ e) in
          rw z (NatL.min-zero (bit mask s))

  of-bits : bit_and mask (mask_of n f) ≡ mask_of n f → (s : ℕ) → s < n → has s ≡ true
  unfolding has
  of-bits e s l = by (f s) refl
    where
      by : (b : Bool) → f s ≡ b → (not b || covered mask s) ≡ true
      by true k = includes-covers mask (mask_of n f) s (eq-eqb _ _ e) (mask-covers n f s l ∙ k)
      by false k = refl

  pub includes-every : includes mask (mask_of n f) ≡ every n (λ s. not (f s) || covered mask s)
  unfolding has
  includes-every = by (every n has) refl
    where
      by : (b : Bool) → every n has ≡ b → includes mask (mask_of n f) ≡ b
      by true e =
          eq-eqb _ _ (bits-same n _ _ (NatL.lt_of_le_of_lt (and_le_r mask (mask_of n f)) (mask_below n f)) (mask_below n f)
          (λ s l. each-bit s l (every-at n has e s l)))
      by false e = ne_eqb _ _ (λ same. absurd (is_T (sym e ∙ at_every n has (of-bits same))))
