-- Every number that the rules let people type is read as what it is, or not at all if that is not whole. Assumes nothing.
--
-- In order: an exponent, or none; the whole word.
use Prim.Native.Nat.{ℕ, zero, suc, ◌+◌, ◌-◌, ◌*◌, ◌^◌, ◌≤◌}
use mathlib.Core.Path.{◌≡◌, refl, sym, ap, subst⁻¹, ◌∙◌}
use mathlib.Core.Bool.{Bool, true, false, false≢true, ◌||◌, cond}
use mathlib.Core.List.{List, [], ◌∷◌, ◌++◌}
use native.Mathlib.Omega.{arith}
use borrow.Author.Tests.{le-leb, ne_eqb}
use lib.Dec.{leb}
use lib.ListN.{length, drop}
use Rattle.words.specs.Class.{class_of}
use Rattle.words.specs.declared.Class.{Class}
use Rattle.words.specs.declared.Class.TheVariants.{Space, Colon, Hash, Digit, Point, Minus, Star, Rest}
use Rattle.numerals.specs.declared.Form.{Form}
use Rattle.numerals.specs.Numeral.{is_digit, digits, value, is_minus, negative, scaled, most_power, powered, exponent, pointed, enough, fraction, amount_of}
use Rattle.numerals.specs.Typed.{Digits, bytes, written, Exponent, none, up, down, ending, Few, raised_by, unpointed_word, pointed_word}
use Rattle.numerals.specs.Typed.{unpointed_amount, pointed_amount}
use Rattle.numerals.proofs.Laws.{value-end, Power, powered-is, decimal-is, fraction-pointed, fraction-plain, amount-is}

digit-is : (d : ℕ) → d ≤ 9 → is_digit (class_of (48 + d)) ≡ true
digit-is d h = simp (
  ne_eqb (48 + d) 32 (λ e. omega arith),
  ne_eqb (48 + d) 9 (λ e. omega arith),
  ne_eqb (48 + d) 13 (λ e. omega arith),
  ne_eqb (48 + d) 10 (λ e. omega arith),
  ne_eqb (48 + d) 58 (λ e. omega arith),
  ne_eqb (48 + d) 35 (λ e. omega arith),
  le-leb 48 (48 + d) (omega arith),
  le-leb (48 + d) 57 (omega arith),
)

module _ (r : List ℕ) where
  digits-typed : (ds : List ℕ) → Digits ds → digits r ≡ 0 → digits (bytes ds ++ r) ≡ length ds
  unfolding digits
  digits-typed [] h e = e
  digits-typed (d ∷ ds) (h, hs) e = ap (λ (t : Bool). cond t (suc (digits (bytes ds ++ r))) 0) (digit-is d h) ∙ ap suc (digits-typed ds hs e)

  value-typed : (v : ℕ) (ds : List ℕ) → Digits ds → (((u : ℕ) → value u r ≡ u)) → value v (bytes ds ++ r) ≡ written v ds
  unfolding value
  value-typed v [] h e = e v
  value-typed v (d ∷ ds) (h, hs) e =
      let s : v * 10 + ((48 + d) - 48) ≡ v * 10 + d = omega arith in
      ap (λ (t : Bool). cond t (value (v * 10 + ((48 + d) - 48)) (bytes ds ++ r)) v) (digit-is d h) ∙ ap (λ (u : ℕ). value u (bytes ds ++ r)) s
      ∙ value-typed (v * 10 + d) ds hs e

  drop-typed : (ds : List ℕ) → drop (length ds) (bytes ds ++ r) ≡ r
  drop-typed [] = refl
  drop-typed (d ∷ ds) = drop-typed ds

-- a point is no digit
point-no-digit : (w : List ℕ) → digits (46 ∷ w) ≡ 0
unfolding digits
point-no-digit w = refl

either-part : (n k : ℕ) → 1 ≤ n + k → (leb 1 n || leb 1 k) ≡ true
either-part zero k h = le-leb 1 k (omega arith)
either-part (suc n) k h = ap (λ (t : Bool). t || leb 1 k) (le-leb 1 (suc n) (omega arith))

-- ---- an exponent, or none

no-digits : (e : Exponent) → digits (ending e) ≡ 0
unfolding digits
no-digits none = refl
no-digits (up p) = refl
no-digits (down p) = refl

no_value : (e : Exponent) (u : ℕ) → value u (ending e) ≡ u
unfolding value
no_value none u = refl
no_value (up p) u = refl
no_value (down p) u = refl

no-point : (e : Exponent) → pointed (ending e) ≡ false
no-point none = refl
no-point (up p) = refl
no-point (down p) = refl

-- the digit of a power
module _ (p : ℕ) (h : p ≤ most_power) where
  abbrev digit : List ℕ
  digit = bytes (p ∷ [])

  is-power : value 0 digit ≡ p
  is-power = value-typed [] 0 (p ∷ []) (omega arith, tt) (no_value none) ∙ omega arith

  power-typed : Power digit
  power-typed = record { alone = refl; digit = digits-typed [] (p ∷ []) (omega arith, tt) (no-digits none); small = omega (arith, is-power) }

  plus : negative digit ≡ false
  plus = no_minus (class_of (48 + p)) (digit-is p (omega arith))
    where
      no_minus : (k : Class) → is_digit k ≡ true → is_minus k ≡ false
      no_minus Digit e = refl
      no_minus Space e = refl
      no_minus Colon e = refl
      no_minus Hash e = refl
      no_minus Point e = refl
      no_minus Minus e = absurd (false≢true e)
      no_minus Star e = refl
      no_minus Rest e = refl

  up-typed : (v : ℕ) → powered v digit ≡ scaled false p v
  up-typed v =
      powered-is v digit digit (sym (ap (λ (t : Bool). cond t (drop 1 digit) digit) plus)) power-typed
      ∙ ap (λ (t : Bool). scaled t (value 0 digit) v) plus ∙ ap (λ (n : ℕ). scaled false n v) is-power

  down-typed : (v : ℕ) → powered v (45 ∷ digit) ≡ scaled true p v
  down-typed v = powered-is v (45 ∷ digit) digit refl power-typed ∙ ap (λ (n : ℕ). scaled true n v) is-power

exponent-typed : (e : Exponent) (v : ℕ) → Few e → exponent true v (ending e) ≡ raised_by e v
unfolding exponent
exponent-typed none v h = refl
exponent-typed (up p) v h = up-typed p h v
exponent-typed (down p) v h = down-typed p h v

-- ---- the whole word

module _ (form : Form) (loose : form.loose ≡ true) (ds : List ℕ) (e : Exponent) (hd : Digits ds) (ld : length ds ≤ form.digits) (he : Few e) where
  abbrev whole : ℕ
  whole = written 0 ds * 10 ^ form.places

  -- what follows the whole part
  after : (r : List ℕ) → digits r ≡ 0 → ((u : ℕ) → value u r ≡ u) → amount_of form (bytes ds ++ r) ≡ fraction form (length ds) whole r
  after r z k =
      let n = digits-typed r ds hd z in
      amount-is form (bytes ds ++ r) (omega (arith, n)) ∙ ap (λ (i : ℕ). fraction form i (value 0 (bytes ds ++ r) * 10 ^ form.places)
      (drop i (bytes ds ++ r))) n ∙ ap (λ (i : ℕ). fraction form (length ds) (i * 10 ^ form.places) (drop (length ds) (bytes ds ++ r)))
      (value-typed r 0 ds hd k) ∙ ap (fraction form (length ds) whole) (drop-typed r ds)

  ends-typed : (v : ℕ) → exponent form.loose v (ending e) ≡ raised_by e v
  ends-typed v = ap (λ (t : Bool). exponent t v (ending e)) loose ∙ exponent-typed e v he

  -- without a point
  pub unpointed-read : 1 ≤ length ds → amount_of form (unpointed_word ds e) ≡ unpointed_amount form.places ds e
  unpointed-read some =
      after (ending e) (no-digits e) (no_value e) ∙ fraction-plain form (length ds) whole (ending e) (no-point e) some ∙ ends-typed whole

  -- with a point; one of the two parts may be missing
  pub pointed-read : (fs : List ℕ) → Digits fs → length fs ≤ form.places → 1 ≤ length ds + length fs
      → amount_of form (pointed_word ds fs e) ≡ pointed_amount form.places ds fs e
  pointed-read fs hf lf some =
      let w = bytes fs ++ ending e in
      let k = digits-typed (ending e) fs hf (no-digits e) in
      let x = value-typed (ending e) 0 fs hf (no_value e) in
      after (46 ∷ w) no_digit no_number ∙ fraction-pointed form (length ds) whole (46 ∷ w) refl
      ∙ decimal-is form (length ds) whole w (omega (arith, k)) (subst⁻¹ (λ (i : ℕ). enough form.loose (length ds) i ≡ true) k (one-part fs some))
      ∙ ap (λ (i : ℕ). exponent form.loose (whole + value 0 w * 10 ^ (form.places - i)) (drop i w)) k
      ∙ ap (λ (i : ℕ). exponent form.loose (whole + i * 10 ^ (form.places - length fs)) (drop (length fs) w)) x
      ∙ ap (exponent form.loose (whole + written 0 fs * 10 ^ (form.places - length fs))) (drop-typed (ending e) fs)
      ∙ ends-typed (whole + written 0 fs * 10 ^ (form.places - length fs))
    where
      no_digit : digits (46 ∷ (bytes fs ++ ending e)) ≡ 0
      no_digit = point-no-digit (bytes fs ++ ending e)

      no_number : (u : ℕ) → value u (46 ∷ (bytes fs ++ ending e)) ≡ u
      no_number u = value-end u (46 ∷ (bytes fs ++ ending e)) (point-no-digit (bytes fs ++ ending e))

      one-part : (fs : List ℕ) → 1 ≤ length ds + length fs → enough form.loose (length ds) (length fs) ≡ true
      one-part fs some = ap (λ (t : Bool). enough t (length ds) (length fs)) loose ∙ either-part (length ds) (length fs) some
