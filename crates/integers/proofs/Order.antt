-- The ordered group of whole numbers and its natural multiples. Assumes nothing.
--
-- In order: order; the smaller of two; sums; multiples.
use Rattle.integers.proofs.Kit.{◌≡◌, refl, ap, subst, true, false, Bool, cond, ℕ, ◌<◌, ◌+◌, ◌*◌, arith, ℤ, pos, ◌+ℤ◌, ◌-ℤ◌, neg_ℤ, ◌≤ℤ◌, le_z, ◌<ℤ◌}
use native.Mathlib.Nat as NatL
use Rattle.integers.specs.Whole.{◌·◌, lesser}
use Rattle.integers.proofs.Parts.{add_parts, sub-parts-ℤ, neg-parts, times-parts, eq-by, le-by, le_parts, lt-parts, le_z-true, le_z-false, le_z-is}

-- ---- order
pub ≤-refl : (a : ℤ) → a ≤ℤ a
≤-refl a = le-by a a (omega arith)

pub ≤-of : {a b : ℤ} → a ≡ b → a ≤ℤ b
≤-of {a} e = subst (λ (x : ℤ). a ≤ℤ x) e (≤-refl a)

pub ≤_trans : {a b c : ℤ} → a ≤ℤ b → b ≤ℤ c → a ≤ℤ c
≤_trans {a} {b} {c} h k = le-by a c (omega (arith, le_parts h, le_parts k))

pub ≤-antisym : {a b : ℤ} → a ≤ℤ b → b ≤ℤ a → a ≡ b
≤-antisym {a} {b} h k = eq-by a b (omega (arith, le_parts h, le_parts k))

pub <-≤ : {a b : ℤ} → a <ℤ b → a ≤ℤ b
<-≤ {a} {b} h = le-by a b (omega (arith, lt-parts h))

pub add-mono : {a b c d : ℤ} → a ≤ℤ b → c ≤ℤ d → (a +ℤ c) ≤ℤ (b +ℤ d)
add-mono {a} {b} {c} {d} h k = le-by (a +ℤ c) (b +ℤ d) (omega (arith, le_parts h, le_parts k, add_parts a c, add_parts b d))

pub neg-mono : {a b : ℤ} → a ≤ℤ b → neg_ℤ b ≤ℤ neg_ℤ a
neg-mono {a} {b} h = le-by (neg_ℤ b) (neg_ℤ a) (omega (arith, le_parts h, neg-parts a, neg-parts b))

pub sub-≤ : (x : ℤ) (d : ℕ) → (x -ℤ pos d) ≤ℤ x
sub-≤ x d = le-by (x -ℤ pos d) x (omega (arith, sub-parts-ℤ x (pos d)))

-- ---- the smaller of two
-- what holds of either, where it is the smaller
pub lesser-by : (P : ℤ → Type 0) (a b : ℤ) → (a ≤ℤ b → P a) → (b <ℤ a → P b) → P (lesser a b)
unfolding lesser
lesser-by P a b h k = by (le_z a b) refl
  where
    by : (c : Bool) → le_z a b ≡ c → P (cond c a b)
    by true e = h (le-by a b (le_z-true a b e))
    by false e = k (le_z-false a b e)

pub lesser-left : (a b : ℤ) → lesser a b ≤ℤ a
lesser-left a b = lesser-by (λ x. x ≤ℤ a) a b (λ h. ≤-refl a) (λ h. <-≤ h)

pub lesser-right : (a b : ℤ) → lesser a b ≤ℤ b
lesser-right a b = lesser-by (λ x. x ≤ℤ b) a b (λ h. h) (λ h. ≤-refl b)

-- where the first is at most the second, it is the smaller
pub lesser-is : (a b : ℤ) → a ≤ℤ b → lesser a b ≡ a
unfolding lesser
lesser-is a b h = rw (le_z-is a b h) refl

-- ---- sums
pub add_comm : (a b : ℤ) → a +ℤ b ≡ b +ℤ a
add_comm a b = eq-by (a +ℤ b) (b +ℤ a) (omega (arith, add_parts a b, add_parts b a))

pub add_assoc : (a b c : ℤ) → (a +ℤ b) +ℤ c ≡ a +ℤ (b +ℤ c)
add_assoc a b c = eq-by ((a +ℤ b) +ℤ c) (a +ℤ (b +ℤ c)) (omega (arith, add_parts a b, add_parts b c, add_parts (a +ℤ b) c, add_parts a (b +ℤ c)))

pub add_left_comm : (a b c : ℤ) → a +ℤ (b +ℤ c) ≡ b +ℤ (a +ℤ c)
add_left_comm a b c = eq-by (a +ℤ (b +ℤ c)) (b +ℤ (a +ℤ c)) (omega (arith, add_parts a (b +ℤ c), add_parts b c, add_parts a c, add_parts b (a +ℤ c)))

pub sub-zero : (x : ℤ) → x -ℤ pos 0 ≡ x
sub-zero x = eq-by (x -ℤ pos 0) x (omega (arith, sub-parts-ℤ x (pos 0)))

pub add_none : (x : ℤ) → x +ℤ pos 0 ≡ x
add_none x = eq-by (x +ℤ pos 0) x (omega (arith, add_parts x (pos 0)))

pub sub-gap : (x y : ℤ) → x ≡ y +ℤ (x -ℤ y)
sub-gap x y = eq-by x (y +ℤ (x -ℤ y)) (omega (arith, add_parts y (x -ℤ y), sub-parts-ℤ x y))

pub add_sub_cancel : (x y r : ℤ) → ((x +ℤ y) +ℤ r) -ℤ y ≡ x +ℤ r
add_sub_cancel x y r = eq-by (((x +ℤ y) +ℤ r) -ℤ y) (x +ℤ r) (omega (arith, add_parts x y, add_parts (x +ℤ y) r, sub-parts-ℤ ((x +ℤ y) +ℤ r) y, add_parts x r))

-- ---- multiples
pub ·-add : (n : ℕ) (a b : ℤ) → n · (a +ℤ b) ≡ n · a +ℤ n · b
·-add n a b =
    eq-by (n · (a +ℤ b)) (n · a +ℤ n · b)
    (omega (arith, times-parts n (a +ℤ b), times-parts n a, times-parts n b, add_parts (n · a) (n · b), ap (λ (x : ℕ). n * x) (add_parts a b)))

pub add-· : (m n : ℕ) (a : ℤ) → (m + n) · a ≡ m · a +ℤ n · a
add-· m n a =
    eq-by ((m + n) · a) (m · a +ℤ n · a) (omega (arith, times-parts (m + n) a, times-parts m a, times-parts n a, add_parts (m · a) (n · a)))

pub ·-· : (m n : ℕ) (a : ℤ) → (m * n) · a ≡ m · (n · a)
·-· m n a =
    eq-by ((m * n) · a) (m · (n · a))
    (omega (arith, times-parts (m * n) a, times-parts m (n · a), ap (λ (x : ℕ). m * x) (times-parts n a).0, ap (λ (x : ℕ). m * x) (times-parts n a).1))

pub ·-swap : (m n : ℕ) (a : ℤ) → m · (n · a) ≡ n · (m · a)
·-swap m n a = rw (← ·-·, ← ·-·, NatL.mul_comm m n) refl

pub ·-neg : (n : ℕ) (a : ℤ) → n · neg_ℤ a ≡ neg_ℤ (n · a)
·-neg n a =
    eq-by (n · neg_ℤ a) (neg_ℤ (n · a))
    (omega (arith, times-parts n (neg_ℤ a), times-parts n a, neg-parts (n · a), ap (λ (x : ℕ). n * x) (neg-parts a).0, ap (λ (x : ℕ). n * x) (neg-parts a).1))

pub zero-· : (a : ℤ) → 0 · a ≡ pos 0
zero-· a = eq-by (0 · a) (pos 0) (omega (arith, times-parts 0 a))

pub one-· : (a : ℤ) → 1 · a ≡ a
one-· a = eq-by (1 · a) a (omega (arith, times-parts 1 a))

pub ·-zero : (n : ℕ) → n · pos 0 ≡ pos 0
·-zero n = eq-by (n · pos 0) (pos 0) (omega (arith, times-parts n (pos 0)))

pub ·-pos : (m n : ℕ) → m · pos n ≡ n · pos m
unfolding ◌·◌
·-pos m n = ap pos (NatL.mul_comm m n)

pub ·-mono : (n : ℕ) {a b : ℤ} → a ≤ℤ b → n · a ≤ℤ n · b
·-mono n {a} {b} h = le-by (n · a) (n · b) (omega (arith, times-parts n a, times-parts n b, NatL.mul-le-mul_left n (le_parts h)))

pub ·-cancel : (n : ℕ) {a b : ℤ} → 0 < n → n · a ≤ℤ n · b → a ≤ℤ b
·-cancel n {a} {b} p h = le-by a b (NatL.le_of_mul-le-mul_left (omega (arith, times-parts n a, times-parts n b, le_parts h)) p)
