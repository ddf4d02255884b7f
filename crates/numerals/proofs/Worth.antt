-- What is read is what the word writes, as an exact fraction. Assumes nothing.
--
-- In order: a word that is a number; its digits; its exponent; the whole word.
use Rattle.std.specs.Prelude.{Option, Some, None}
use Prim.Native.Nat.{ℕ, zero, suc, ◌+◌, ◌-◌, ◌*◌, ◌^◌, ◌/◌, ◌%◌, ◌≤◌}
use mathlib.Core.Path.{◌≡◌, refl, sym, ap, subst, ◌∙◌}
use mathlib.Core.Bool.{Bool, true, false, false≢true, ◌&&◌, cond, and-eq-true_iff}
use mathlib.Core.List.{List, [], ◌∷◌}
use native.Mathlib.Omega.{arith}
use native.Mathlib.Nat.{mul_comm, mul_assoc, mul_left_comm, mul_right_comm, add-mul, mul-add, mul-one, one-mul, pow-suc, sub-add_cancel, div-add-mod'}
use native.Mathlib.Nat.{add-zero, zero-add, add-suc}
use borrow.Author.Tests.{eqb-true, ne_eqb, leb-true}
use lib.Dec.{eqb, leb}
use lib.ListN.{drop}
use Rattle.words.specs.Class.{class_of}
use Rattle.numerals.specs.declared.Form.{Form}
use Rattle.numerals.specs.Numeral.{is_digit, is_point, digits, value, negative, unsigned, fitting, scaled, is_power, powered, exponent_mark, exponent}
use Rattle.numerals.specs.Numeral.{enough, after_point, fraction, amount_of}
use Rattle.numerals.specs.Worth.{mantissa, decimals, power_part, power_up, power_down, IsWorth}
use Rattle.numerals.proofs.Laws.{digit-byte, point-byte}

-- ---- a word that is a number

abbrev units_of : Option ℕ → ℕ
units_of (Some v) = v
units_of None = 0

abbrev is_number : Option ℕ → Bool
is_number (Some v) = true
is_number None = false

fitted : (t : Bool) (a : Option ℕ) {x : ℕ} → fitting t a ≡ Some x → (t ≡ true) × (a ≡ Some x)
fitted true a e = (refl, e)
fitted false a e = absurd (false≢true (ap is_number e))

-- ---- its digits

-- what goes through the digits that a word begins with, one by one, is what it is after them
past-digits : {X : Type 0} (f : ℕ → List ℕ → X)
    → ((v b : ℕ) (w : List ℕ) → is_digit (class_of b) ≡ true → f v (b ∷ w) ≡ f (v * 10 + (b - 48)) w)
    → (v : ℕ) (w : List ℕ) → f v w ≡ f (value v w) (drop (digits w) w)
unfolding value digits
past-digits f step v [] = refl
past-digits {X} f step v (b ∷ w) = either (is_digit (class_of b)) refl (past-digits f step (v * 10 + (b - 48)) w)
  where
    either : (t : Bool) → is_digit (class_of b) ≡ t → f (v * 10 + (b - 48)) w ≡ f (value (v * 10 + (b - 48)) w) (drop (digits w) w)
        → f v (b ∷ w) ≡ f (cond t (value (v * 10 + (b - 48)) w) v) (drop (cond t (suc (digits w)) 0) (b ∷ w))
    either true e h = step v b w e ∙ h
    either false e h = refl

power-sum : (i j : ℕ) → 10 ^ (i + j) ≡ 10 ^ i * 10 ^ j
power-sum i zero = ap (λ (n : ℕ). 10 ^ n) (add-zero i) ∙ sym (mul-one (10 ^ i))
power-sum i (suc j) = ap (λ (n : ℕ). 10 ^ n) (add-suc i j) ∙ pow-suc 10 (i + j) ∙ ap (λ (n : ℕ). n * 10) (power-sum i j) ∙ mul_assoc (10 ^ i) (10 ^ j) 10
    ∙ ap (λ (n : ℕ). 10 ^ i * n) (sym (pow-suc 10 j))

shift : (v d p z : ℕ) → (v * 10 + d) * p + z ≡ v * (p * 10) + (d * p + z)
shift v d p z = omega (arith, add-mul (v * 10) d p, mul_assoc v 10 p, ap (λ (n : ℕ). v * n) (mul_comm 10 p))

-- digits after digits worth v
value_after : (v : ℕ) (w : List ℕ) → value v w ≡ v * 10 ^ digits w + value 0 w
unfolding value digits
value_after v [] = omega (arith, mul-one v)
value_after v (b ∷ w) = either (is_digit (class_of b)) (value_after (v * 10 + (b - 48)) w) (value_after (0 * 10 + (b - 48)) w)
  where
    either : (t : Bool) → value (v * 10 + (b - 48)) w ≡ (v * 10 + (b - 48)) * 10 ^ digits w + value 0 w
        → value (0 * 10 + (b - 48)) w ≡ (0 * 10 + (b - 48)) * 10 ^ digits w + value 0 w
        → cond t (value (v * 10 + (b - 48)) w) v ≡ v * 10 ^ cond t (suc (digits w)) 0 + cond t (value (0 * 10 + (b - 48)) w) 0
    either true h k =
        h ∙ shift v (b - 48) (10 ^ digits w) (value 0 w) ∙ ap (λ (n : ℕ). v * n + ((b - 48) * 10 ^ digits w + value 0 w)) (sym (pow-suc 10 (digits w)))
        ∙ ap (λ (n : ℕ). v * 10 ^ suc (digits w) + n) (sym (k ∙ ap (λ (n : ℕ). n * 10 ^ digits w + value 0 w) (zero-add (b - 48))))
    either false h k = omega (arith, mul-one v)

-- ---- its exponent

scaled-worth : (t : Bool) (p v x : ℕ) → scaled t p v ≡ Some x → x * 10 ^ cond t p 0 ≡ v * 10 ^ cond t 0 p
scaled-worth false p v x e = mul-one x ∙ sym (ap units_of e)
scaled-worth true p v x e =
    let f = fitted (eqb (v % 10 ^ p) 0) (Some (v / 10 ^ p)) e in
    let q : v / 10 ^ p ≡ x = ap units_of f.1 in
    sym (ap (λ (n : ℕ). n * 10 ^ p) q) ∙ omega (arith, div-add-mod' v (10 ^ p), eqb-true (v % 10 ^ p) 0 f.0) ∙ sym (mul-one v)

powered-worth : (v : ℕ) (w : List ℕ) (x : ℕ) → powered v w ≡ Some x → x * 10 ^ power_down w ≡ v * 10 ^ power_up w
unfolding powered
powered-worth v w x e = scaled-worth (negative w) (value 0 (unsigned w)) v x (fitted (is_power (unsigned w)) _ e).1

-- what follows a number's digits has none that count, and scales it
record Scaled (v : ℕ) (t : List ℕ) (x : ℕ) : Type 0 where
  ends : (u : ℕ) → mantissa u t ≡ u
  none : decimals t ≡ 0
  worth : x * 10 ^ power_down (power_part t) ≡ v * 10 ^ power_up (power_part t)

exponent-worth : (loose : Bool) (v : ℕ) (t : List ℕ) (x : ℕ) → exponent loose v t ≡ Some x → Scaled v t x
unfolding exponent mantissa decimals power_part value
exponent-worth loose v [] x e = record { ends = λ u. refl; none = refl; worth = ap (λ (n : ℕ). n * 10 ^ 0) (sym (ap units_of e)) }
exponent-worth loose v (b ∷ w) x e =
    let f = fitted (loose && eqb b exponent_mark) (powered v w) e in
    let m : b ≡ exponent_mark = eqb-true b exponent_mark ((and-eq-true_iff loose (eqb b exponent_mark)).0 f.0).1 in
    subst (λ (b : ℕ). Scaled v (b ∷ w) x) (sym m) (record { ends = λ u. refl; none = refl; worth = powered-worth v w x f.1 })

-- ---- the whole word

-- no point: x L = (u T) U
alone : (x l u t r : ℕ) → x * l ≡ u * t * r → x * (1 * l) ≡ u * r * t
alone x l u t r e = ap (λ (n : ℕ). x * n) (one-mul l) ∙ e ∙ mul_right_comm u t r

-- k digits after the point: x L = (u T + z S) U with T = S K
beside : (x l u z s t k r : ℕ) → t ≡ s * k → x * l ≡ (u * t + z * s) * r → x * (k * l) ≡ (u * k + z) * r * t
beside x l u z s t k r c e =
    mul_left_comm x k l ∙ ap (λ (n : ℕ). k * n) e ∙ sym (mul_assoc k (u * t + z * s) r) ∙ ap (λ (n : ℕ). n * r) both ∙ mul_right_comm (u * k + z) t r
  where
    first : k * (u * t) ≡ u * k * t
    first = mul_left_comm k u t ∙ sym (mul_assoc u k t)

    second : k * (z * s) ≡ z * t
    second = mul_left_comm k z s ∙ ap (λ (n : ℕ). z * n) (mul_comm k s ∙ sym c)

    both : k * (u * t + z * s) ≡ (u * k + z) * t
    both = mul-add k (u * t) (z * s) ∙ ap (λ (n : ℕ). n + k * (z * s)) first ∙ ap (λ (n : ℕ). u * k * t + n) second ∙ sym (add-mul (u * k) z t)

-- digits do not hide a point or an `e`
step-mantissa : (v b : ℕ) (w : List ℕ) → is_digit (class_of b) ≡ true → mantissa v (b ∷ w) ≡ mantissa (v * 10 + (b - 48)) w
unfolding mantissa
step-mantissa v b w e = rw e

step-decimals : (v b : ℕ) (w : List ℕ) → is_digit (class_of b) ≡ true → decimals (b ∷ w) ≡ decimals w
unfolding decimals
step-decimals v b w e = rw e

step-power : (v b : ℕ) (w : List ℕ) → is_digit (class_of b) ≡ true → power_part (b ∷ w) ≡ power_part w
unfolding power_part
step-power v b w e = ap (λ (t : Bool). cond t w (power_part w)) (ne_eqb b exponent_mark (λ m. omega (arith, digit-byte b e)))

module _ (form : Form) (u : ℕ) where
  abbrev Worth : List ℕ → ℕ → Type 0
  Worth t x = x * (10 ^ decimals t * 10 ^ power_down (power_part t)) ≡ mantissa u t * 10 ^ power_up (power_part t) * 10 ^ form.places

  plain-worth : (n : ℕ) (t : List ℕ) (x : ℕ) → fitting (leb 1 n) (exponent form.loose (u * 10 ^ form.places) t) ≡ Some x → Worth t x
  plain-worth n t x e =
      let s = exponent-worth form.loose (u * 10 ^ form.places) t x (fitted (leb 1 n) _ e).1 in
      rw (s.none, s.ends u) (alone x _ u (10 ^ form.places) _ s.worth)

  decimal-worth : (n : ℕ) (w : List ℕ) (x : ℕ) → after_point form n (u * 10 ^ form.places) w ≡ Some x → Worth (46 ∷ w) x
  unfolding after_point mantissa decimals power_part
  decimal-worth n w x e =
      let k = digits w in
      let p = form.places in
      let f = fitted (leb k p && enough form.loose n k) _ e in
      let few : k ≤ p = leb-true k p ((and-eq-true_iff (leb k p) (enough form.loose n k)).0 f.0).0 in
      let rest = drop k w in
      let s = exponent-worth form.loose (u * 10 ^ p + value 0 w * 10 ^ (p - k)) rest x f.1 in
      let power = past-digits (λ v w. power_part w) step-power 0 w in
      let all : mantissa u w ≡ u * 10 ^ k + value 0 w = past-digits mantissa step-mantissa u w ∙ s.ends (value u w) ∙ value_after u w in
      let units : 10 ^ p ≡ 10 ^ (p - k) * 10 ^ k = ap (λ (n : ℕ). 10 ^ n) (sym (sub-add_cancel few)) ∙ power-sum (p - k) k in
      rw (power, all) (beside x _ u (value 0 w) (10 ^ (p - k)) (10 ^ p) (10 ^ k) _ units s.worth)

  fraction-worth : (n : ℕ) (t : List ℕ) (x : ℕ) → fraction form n (u * 10 ^ form.places) t ≡ Some x → Worth t x
  unfolding fraction
  fraction-worth n [] x e = plain-worth n [] x e
  fraction-worth n (b ∷ w) x e = either (is_point (class_of b)) refl e
    where
      either : (t : Bool) → is_point (class_of b) ≡ t
          → cond t (after_point form n (u * 10 ^ form.places) w) (fitting (leb 1 n) (exponent form.loose (u * 10 ^ form.places) (b ∷ w))) ≡ Some x
          → Worth (b ∷ w) x
      either true q e = subst (λ (b : ℕ). Worth (b ∷ w) x) (sym (point-byte b q)) (decimal-worth n w x e)
      either false q e = plain-worth n (b ∷ w) x e

-- Its units are its digits, of which the decimals count in smaller units, and the exponent multiplies them or divides them without rest. Qed.
pub amount-worth : (form : Form) (w : List ℕ) (x : ℕ) → amount_of form w ≡ Some x → IsWorth form.places w x
unfolding amount_of
amount-worth form w x e =
    let f = fitted (leb (digits w) form.digits) _ e in
    let m = past-digits mantissa step-mantissa 0 w in
    let d = past-digits (λ v w. decimals w) step-decimals 0 w in
    let p = past-digits (λ v w. power_part w) step-power 0 w in
    rw (m, d, p) (fraction-worth form (value 0 w) (digits w) (drop (digits w) w) x f.1)
