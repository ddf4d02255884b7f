-- How large a number of a form that is not loose can be: it has fewer than 10 ^ digits × 10 ^ places units. Assumes nothing.
--
-- n digits write less than 10 ^ n. So a whole part is worth at most (10 ^ digits - 1) × 10 ^ places units, and the k decimals, with a 0 for each of the
-- others, less than 10 ^ k × 10 ^ (places - k) = 10 ^ places. Nothing follows them in a form that is not loose. Qed.
--
-- In order: digits; numbers.
use Rattle.std.specs.Prelude.{Option, Some, None}
use Prim.Native.Nat.{ℕ, suc, ◌+◌, ◌-◌, ◌*◌, ◌^◌, ◌≤◌, ◌<◌}
use mathlib.Core.Path.{◌≡◌, refl, sym, ap, ◌∙◌}
use mathlib.Core.Bool.{Bool, true, false, true≢false, ◌&&◌, cond, and-eq-true_iff}
use mathlib.Core.List.{List, [], ◌∷◌}
use native.Mathlib.Omega.{arith}
use native.Mathlib.Nat.{add-mul, mul_assoc, mul_comm, one-mul, pow-suc, pow-zero, mul-le-mul_right}
use borrow.Author.Tests.{leb-true}
use lib.Dec.{leb}
use lib.ListN.{drop}
use lib.Pow.{pow-add}
use Rattle.words.specs.Class.{class_of}
use Rattle.numerals.specs.declared.Form.{Form}
use Rattle.numerals.specs.Numeral.{is_digit, digits, value, fitting, exponent, pointed, enough, after_point, fraction, amount_of}
use Rattle.numerals.proofs.Laws.{digit-byte, power-least, power-some}

-- ---- digits

-- after digits worth v
value-below : (v : ℕ) (w : List ℕ) → value v w < (v + 1) * 10 ^ digits w
unfolding value digits
value-below v [] = rw pow-zero (omega arith)
value-below v (b ∷ w) = by (is_digit (class_of b)) (digit-byte b) (value-below (v * 10 + (b - 48)) w)
  where
    by : (t : Bool) → (t ≡ true → (48 ≤ b) × (b ≤ 57)) → value (v * 10 + (b - 48)) w < ((v * 10 + (b - 48)) + 1) * 10 ^ digits w
        → cond t (value (v * 10 + (b - 48)) w) v < (v + 1) * 10 ^ cond t (suc (digits w)) 0
    by true h l =
        let most : (v * 10 + (b - 48)) + 1 ≤ (v + 1) * 10 = omega (arith, h refl) in
        let next : (v + 1) * 10 * 10 ^ digits w ≡ (v + 1) * 10 ^ suc (digits w) = mul_assoc (v + 1) 10 (10 ^ digits w)
        ∙ ap (λ (n : ℕ). (v + 1) * n) (mul_comm 10 (10 ^ digits w) ∙ sym (pow-suc 10 (digits w))) in
        omega (arith, l, next, mul-le-mul_right (10 ^ digits w) most)
    by false h l = rw pow-zero (omega arith)

digits-below : (w : List ℕ) → value 0 w < 10 ^ digits w
digits-below w = omega (arith, value-below 0 w, one-mul (10 ^ digits w))

-- fewer digits than n, times u
less-times : {v : ℕ} (n u : ℕ) → v < n → v * u + u ≤ n * u
less-times {v} n u h = omega (arith, add-mul v 1 u, one-mul u, mul-le-mul_right u (let l : v + 1 ≤ n = omega arith in l))

-- ---- numbers

-- what holds of a number, if it is one
abbrev pub OfNumber : (ℕ → Type 0) → Option ℕ → Type 0
OfNumber P (Some v) = P v
OfNumber P None = Unit

module _ (P : ℕ → Type 0) where
  of-fitting : (t : Bool) (a : Option ℕ) → (t ≡ true → OfNumber P a) → OfNumber P (fitting t a)
  of-fitting true a h = h refl
  of-fitting false a h = tt

  of-cond : (t : Bool) (a b : Option ℕ) → OfNumber P a → OfNumber P b → OfNumber P (cond t a b)
  of-cond true a b h k = h
  of-cond false a b h k = k

  -- nothing follows in a form that is not loose
  of-exponent : (loose : Bool) (v : ℕ) (w : List ℕ) → loose ≡ false → P v → OfNumber P (exponent loose v w)
  unfolding exponent
  of-exponent loose v [] e p = p
  of-exponent true v (b ∷ w) e p = absurd (true≢false e)
  of-exponent false v (b ∷ w) e p = tt

module _ (form : Form) (plain : form.loose ≡ false) where
  abbrev limit : ℕ
  limit = 10 ^ form.digits * 10 ^ form.places

  whole_below : (w : List ℕ) → digits w ≤ form.digits → value 0 w * 10 ^ form.places + 10 ^ form.places ≤ limit
  whole_below w h = less-times (10 ^ form.digits) (10 ^ form.places) (omega (arith, digits-below w, power-least h))

  decimals-below : (w : List ℕ) → digits w ≤ form.places → value 0 w * 10 ^ (form.places - digits w) < 10 ^ form.places
  decimals-below w h =
      let all : digits w + (form.places - digits w) ≡ form.places = omega arith in
      let whole : 10 ^ form.places ≡ 10 ^ digits w * 10 ^ (form.places - digits w) = ap (λ (n : ℕ). 10 ^ n) (sym all)
      ∙ pow-add 10 (digits w) (form.places - digits w) in
      omega (arith, whole, power-some (form.places - digits w), less-times (10 ^ digits w) (10 ^ (form.places - digits w)) (digits-below w))

  decimal-below : (n whole : ℕ) (w : List ℕ) → whole + 10 ^ form.places ≤ limit → OfNumber (λ v. v < limit) (after_point form n whole w)
  unfolding after_point
  decimal-below n whole w h =
      of-fitting (λ v. v < limit) (leb (digits w) form.places && enough form.loose n (digits w))
      (exponent form.loose (whole + value 0 w * 10 ^ (form.places - digits w)) (drop (digits w) w)) (λ t.
      let few = leb-true (digits w) form.places ((and-eq-true_iff (leb (digits w) form.places) (enough form.loose n (digits w))).0 t).0 in
      of-exponent (λ v. v < limit) form.loose (whole + value 0 w * 10 ^ (form.places - digits w)) (drop (digits w) w) plain
      (omega (arith, decimals-below w few)))

  fraction-below : (n whole : ℕ) (w : List ℕ) → whole + 10 ^ form.places ≤ limit → OfNumber (λ v. v < limit) (fraction form n whole w)
  unfolding fraction
  fraction-below n whole w h =
      of-cond (λ v. v < limit) (pointed w) (after_point form n whole (drop 1 w)) (fitting (leb 1 n) (exponent form.loose whole w))
      (decimal-below n whole (drop 1 w) h)
      (of-fitting (λ v. v < limit) (leb 1 n) (exponent form.loose whole w) (λ _. of-exponent (λ v. v < limit) form.loose whole w plain
      (omega (arith, power-some form.places))))

  pub amount-below : (w : List ℕ) → OfNumber (λ v. v < 10 ^ form.digits * 10 ^ form.places) (amount_of form w)
  unfolding amount_of
  amount-below w =
      of-fitting (λ v. v < limit) (leb (digits w) form.digits) (fraction form (digits w) (value 0 w * 10 ^ form.places) (drop (digits w) w)) (λ t.
      fraction-below (digits w) (value 0 w * 10 ^ form.places) (drop (digits w) w) (whole_below w (leb-true (digits w) form.digits t)))
