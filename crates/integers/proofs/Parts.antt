-- A whole number is its positive part less its negative part, one of which is 0. Each operation has a law that is linear in the parts, so that omega
-- proves what is to be shown of ℤ: list the laws of the operations at hand, and go back by `le-by`, `lt_by` or `eq-by`. Assumes nothing.
--
-- In order: operations; equality and order; tests, as a branch leaves them.
use Rattle.integers.proofs.Kit.{◌≡◌, ◌∙◌, refl, ap, sym, subst, true, false, Bool, cond, ℕ, ◌≤◌, ◌<◌, ◌+◌, ◌*◌, suc, ◌-◌, zero, arith}
use Rattle.integers.proofs.Kit.{ltb, T, ℤ, pos, nat_abs, ◌+ℤ◌, negsuc, ◌-ℤ◌, neg_ℤ, ◌≤ℤ◌, lt_z, le_z, ◌<ℤ◌}
use mathlib.Core.Bool.{not}
use lib.Dec.{leb→le, le→leb, ltb→lt, lt→ltb, nltb→le}
use lib.IntN.{sub_ℕ}
use lib.Signed.{lt_z_yes, lt_z_no, le_z_yes}
use Rattle.integers.specs.Whole.{◌·◌}

abbrev pub up : ℤ → ℕ
up (pos n) = n
up (negsuc n) = 0

abbrev pub dn : ℤ → ℕ
dn (pos n) = 0
dn (negsuc n) = suc n

-- ---- operations
sub_parts : (a b : ℕ) → up (sub_ℕ a b) + b ≡ a + dn (sub_ℕ a b)
sub_parts a b = by (ltb a b) (ltb→lt a b) (nltb→le a b)
  where
    by : (c : Bool) → (T c → a < b) → (T (not c) → b ≤ a)
        → up (cond c (negsuc (b - suc a)) (pos (a - b))) + b ≡ a + dn (cond c (negsuc (b - suc a)) (pos (a - b)))
    by true f g = omega (arith, f tt)
    by false f g = omega (arith, g tt)

pub add_parts : (a b : ℤ) → up (a +ℤ b) + (dn a + dn b) ≡ (up a + up b) + dn (a +ℤ b)
add_parts (pos a) (pos b) = omega arith
add_parts (pos a) (negsuc b) = omega (arith, sub_parts a (suc b))
add_parts (negsuc a) (pos b) = omega (arith, sub_parts b (suc a))
add_parts (negsuc a) (negsuc b) = omega arith

pub neg-parts : (a : ℤ) → (up (neg_ℤ a) ≡ dn a) × (dn (neg_ℤ a) ≡ up a)
neg-parts (pos zero) = (refl, refl)
neg-parts (pos (suc n)) = (refl, refl)
neg-parts (negsuc n) = (refl, refl)

pub sub-parts-ℤ : (a b : ℤ) → up (a -ℤ b) + (dn a + up b) ≡ (up a + dn b) + dn (a -ℤ b)
sub-parts-ℤ a b = omega (arith, add_parts a (neg_ℤ b), neg-parts b)

pub times-parts : (k : ℕ) (a : ℤ) → (up (k · a) ≡ k * up a) × (dn (k · a) ≡ k * dn a)
unfolding ◌·◌
times-parts k (pos a) = omega arith
times-parts k (negsuc a) = ((neg-parts (pos (k * suc a))).0 ∙ omega arith, (neg-parts (pos (k * suc a))).1)

pub abs-parts : (z : ℤ) → nat_abs z ≡ up z + dn z
abs-parts (pos n) = omega arith
abs-parts (negsuc n) = omega arith

-- ---- equality and order
pub eq-by : (a b : ℤ) → up a + dn b ≡ up b + dn a → a ≡ b
eq-by (pos a) (pos b) h = ap pos (omega arith)
eq-by (pos a) (negsuc b) h = absurd (omega arith)
eq-by (negsuc a) (pos b) h = absurd (omega arith)
eq-by (negsuc a) (negsuc b) h = ap negsuc (omega arith)

pub le_parts : {a b : ℤ} → a ≤ℤ b → up a + dn b ≤ up b + dn a
le_parts {a = pos a} {b = pos b} h = omega (arith, leb→le a b h.le)
le_parts {a = pos a} {b = negsuc b} h = absurd h.le
le_parts {a = negsuc a} {b = pos b} h = omega arith
le_parts {a = negsuc a} {b = negsuc b} h = omega (arith, leb→le b a h.le)

pub le-by : (a b : ℤ) → up a + dn b ≤ up b + dn a → a ≤ℤ b
le-by (pos a) (pos b) h = record { le = le→leb a b (omega arith) }
le-by (pos a) (negsuc b) h = absurd (omega arith)
le-by (negsuc a) (pos b) h = record { le = tt }
le-by (negsuc a) (negsuc b) h = record { le = le→leb b a (omega arith) }

pub lt-parts : {a b : ℤ} → a <ℤ b → up a + dn b < up b + dn a
lt-parts {a = pos a} {b = pos b} h = omega (arith, ltb→lt a b h.lt)
lt-parts {a = pos a} {b = negsuc b} h = absurd h.lt
lt-parts {a = negsuc a} {b = pos b} h = omega arith
lt-parts {a = negsuc a} {b = negsuc b} h = omega (arith, ltb→lt b a h.lt)

pub lt_by : (a b : ℤ) → up a + dn b < up b + dn a → a <ℤ b
lt_by (pos a) (pos b) h = record { lt = lt→ltb a b (omega arith) }
lt_by (pos a) (negsuc b) h = absurd (omega arith)
lt_by (negsuc a) (pos b) h = record { lt = tt }
lt_by (negsuc a) (negsuc b) h = record { lt = lt→ltb b a (omega arith) }

-- ---- tests, as a branch leaves them
pub lt_z-true : (a b : ℤ) → lt_z a b ≡ true → up a + dn b < up b + dn a
lt_z-true a b e = lt-parts (lt_z_yes {a = a} {b = b} (subst T (sym e) tt))

pub lt_z-false : (a b : ℤ) → lt_z a b ≡ false → up b + dn a ≤ up a + dn b
lt_z-false a b e = le_parts (lt_z_no {a = a} {b = b} (subst (λ (x : Bool). T (not x)) (sym e) tt))

pub le_z-true : (a b : ℤ) → le_z a b ≡ true → up a + dn b ≤ up b + dn a
le_z-true a b e = le_parts (le_z_yes {a = a} {b = b} (subst T (sym e) tt))

pub T_true : (b : Bool) → T b → b ≡ true
T_true true h = refl
T_true false h = absurd h

pub T_false : (b : Bool) → T (not b) → b ≡ false
T_false true h = absurd h
T_false false h = refl

pub is_T : {b : Bool} → b ≡ true → T b
is_T e = subst T (sym e) tt

pub le_z-is : (a b : ℤ) → a ≤ℤ b → le_z a b ≡ true
le_z-is a b h = T_true (le_z a b) h.le

-- the order is total
pub le_z-not : (a b : ℤ) → b <ℤ a → le_z a b ≡ false
le_z-not a b h = by (le_z a b) refl
  where
    by : (c : Bool) → le_z a b ≡ c → le_z a b ≡ false
    by true e = absurd (let n : ⊥ = omega (arith, le_z-true a b e, lt-parts h) in n)
    by false e = e

pub le_z-false : (a b : ℤ) → le_z a b ≡ false → b <ℤ a
le_z-false a b e = by (lt_z b a) refl
  where
    by : (c : Bool) → lt_z b a ≡ c → b <ℤ a
    by true f = lt_z_yes (is_T f)
    by false f = absurd (let z : true ≡ false = sym (le_z-is a b (le-by a b (lt_z-false b a f))) ∙ e in subst T z tt)

pub le-true : (a b : ℤ) → le_z a b ≡ true → a ≤ℤ b
le-true a b e = le_z_yes (is_T e)
