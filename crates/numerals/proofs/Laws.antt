-- Laws of numbers in words: one digit more or less, and which words are numbers. Assumes nothing.
--
-- In order: bytes; digits; digits as they were read; room in 64 bits; an exponent; a point; which words are numbers.
use Rattle.std.specs.Prelude.{Option, Some, None}
use Prim.Native.Nat.{ℕ, suc, ◌+◌, ◌-◌, ◌*◌, ◌^◌, ◌/◌, ◌%◌, ◌≤◌, ◌<◌}
use mathlib.Core.Path.{◌≡◌, refl, sym, ap, subst, ◌∙◌}
use mathlib.Core.Bool.{Bool, true, false, false≢true, ◌&&◌, ◌||◌, cond, and-eq-true_iff}
use mathlib.Core.List.{List, [], ◌∷◌}
use native.Mathlib.Omega.{arith}
use native.Mathlib.Decide.{dec_lt}
use native.Mathlib.Nat.{mul-le-mul, pow-le-pow_right, pow-zero}
use borrow.Author.Tests.{eqb-true, leb-true, eq-eqb, le-leb}
use lib.Dec.{eqb, leb, ltb}
use lib.ListN.{length, get_or, drop, drop_of_length-le}
use lib.Pow.{pow-add}
use lib.Seq.{drop-length}
use mir.Val.{bool_byte}
use Rattle.words.specs.Class.{class_of}
use Rattle.words.specs.declared.Class.{Class}
use Rattle.words.specs.declared.Class.TheVariants.{Space, Colon, Hash, Digit, Point, Minus, Star, Rest}
use Rattle.words.proofs.Laws.{by-class, from-here}
use Rattle.numerals.specs.declared.Form.{Form}
use Rattle.numerals.specs.Numeral.{is_digit, is_point, digits, value, is_minus, negative, fitting}
use Rattle.numerals.specs.Numeral.{unsigned, scaled, most_power, exponent_mark, powered, exponent, pointed, enough, after_point, fraction, amount_of}
use Rattle.numerals.specs.Steps.{most_read, most_digits, most_places, most_units, Short, WrittenDigits}

-- ---- bytes
never : {A : Type 0} → false ≡ true → A
never e = absurd (false≢true e)

pub digit-byte : (b : ℕ) → is_digit (class_of b) ≡ true → (48 ≤ b) × (b ≤ 57)
digit-byte b = by-class (λ k. is_digit k ≡ true → (48 ≤ b) × (b ≤ 57)) b (λ h. never) (λ h. never) (λ h. never) (λ l h e. (l, h)) (λ h. never) (λ h. never)
    (λ h. never) never

pub low_byte : (b : ℕ) → b < 48 → is_digit (class_of b) ≡ false
low_byte b h = by-class (λ k. is_digit k ≡ false) b (λ _. refl) (λ _. refl) (λ _. refl) (λ l _. absurd (omega arith)) (λ _. refl) (λ _. refl) (λ _. refl) refl

pub point-byte : (b : ℕ) → is_point (class_of b) ≡ true → b ≡ 46
point-byte b = by-class (λ k. is_point k ≡ true → b ≡ 46) b (λ h. never) (λ h. never) (λ h. never) (λ l h. never) (λ h e. h) (λ h. never) (λ h. never) never

pub negative-none : (w : List ℕ) → length w ≡ 0 → negative w ≡ false
negative-none [] e = refl
negative-none (b ∷ w) e = absurd (omega arith)

pub negative-first : (w : List ℕ) → 0 < length w → is_minus (class_of (get_or w 0 0)) ≡ negative w
negative-first [] h = absurd (omega arith)
negative-first (b ∷ w) h = refl

pub past-minus : (t : Bool) (w : List ℕ) → drop (bool_byte t) w ≡ cond t (drop 1 w) w
past-minus true w = refl
past-minus false w = refl

pub minus-within : (w : List ℕ) → bool_byte (negative w) ≤ length w
minus-within [] = omega arith
minus-within (b ∷ w) = either (is_minus (class_of b))
  where
    either : (t : Bool) → bool_byte t ≤ suc (length w)
    either true = omega arith
    either false = omega arith

-- ---- digits
digit-first : (t : Bool) (n : ℕ) → 0 < cond t (suc n) 0 → t ≡ true
digit-first true n h = refl
digit-first false n h = absurd (omega arith)

no-digit-first : (t : Bool) (n v x : ℕ) → cond t (suc n) 0 ≡ 0 → cond t x v ≡ v
no-digit-first true n v x e = absurd (omega arith)
no-digit-first false n v x e = refl

pub digits-end : (w : List ℕ) (at : ℕ) → at ≡ length w → digits (drop at w) ≡ 0
unfolding digits
digits-end w at e = rw (e, drop-length)

digits-past : (w : List ℕ) (at : ℕ) → (at < length w → ⊥) → digits (drop at w) ≡ 0
unfolding digits
digits-past w at n = rw (drop_of_length-le w {i = at} (omega arith))

pub value-end : (v : ℕ) (w : List ℕ) → digits w ≡ 0 → value v w ≡ v
unfolding value digits
value-end v [] e = refl
value-end v (b ∷ w) e = no-digit-first (is_digit (class_of b)) (digits w) v (value (v * 10 + (b - 48)) w) e

module _ (w : List ℕ) (at : ℕ) (h : at < length w) where
  digits_in : digits (drop at w) ≡ cond (is_digit (class_of (get_or w at 0))) (suc (digits (drop (at + 1) w))) 0
  unfolding digits
  digits_in = ap digits (from-here w at h)

  pub digits-stop : is_digit (class_of (get_or w at 0)) ≡ false → digits (drop at w) ≡ 0
  digits-stop e = digits_in ∙ rw e

  pub digits_more : is_digit (class_of (get_or w at 0)) ≡ true → digits (drop at w) ≡ suc (digits (drop (at + 1) w))
  digits_more e = digits_in ∙ rw e

  -- a digit further
  pub record Turn : Type 0 where
    pub byte : (48 ≤ get_or w at 0) × (get_or w at 0 ≤ 57)
    pub fewer : digits (drop at w) ≡ suc (digits (drop (at + 1) w))
    pub goes : (v : ℕ) → value v (drop at w) ≡ value (v * 10 + (get_or w at 0 - 48)) (drop (at + 1) w)

  pub turn : is_digit (class_of (get_or w at 0)) ≡ true → Turn
  unfolding value
  turn e = record { byte = digit-byte (get_or w at 0) e; fewer = digits_more e; goes = λ v. ap (value v) (from-here w at h) ∙ rw e }

  -- a word that goes on with a digit has no fraction there
  digit-here : 0 < digits (drop at w) → is_digit (class_of (get_or w at 0)) ≡ true
  digit-here l = digit-first (is_digit (class_of (get_or w at 0))) (digits (drop (at + 1) w)) (rw digits_in at l)

-- ---- digits as they were read
module _ (w : List ℕ) {from most end v : ℕ} (d : WrittenDigits w from most end v) where
  -- no digit follows: they are all there
  pub written_all : digits (drop end w) ≡ 0 → (end ≡ from + digits (drop from w)) × (v ≡ value 0 (drop from w))
  written_all e = (omega (arith, d.count), sym (value-end v (drop end w) e) ∙ d.worth)

  pub written-end : end ≡ length w → (end ≡ from + digits (drop from w)) × (v ≡ value 0 (drop from w))
  written-end e = written_all (digits-end w end e)

-- ---- room in 64 bits

pub power-least : {i j : ℕ} → i ≤ j → 10 ^ i ≤ 10 ^ j
power-least {i} {j} h = pow-le-pow_right {n = 10} (omega arith) {i = i} {j = j} h

pub power-some : (n : ℕ) → 0 < 10 ^ n
power-some n = omega (arith, pow-zero 10, power-least {i = 0} {j = n} (omega arith))

-- n digits times a power of ten
pub product : {v u : ℕ} (n p : ℕ) {m q : ℕ} → v < 10 ^ n → n ≤ m → u ≡ 10 ^ p → p ≤ q → v * u ≤ 10 ^ m * 10 ^ q
product {v} {u} n p {m} {q} h k e l =
    let few : v ≤ 10 ^ m = omega (arith, power-least k) in
    let low : u ≤ 10 ^ q = omega (arith, e, power-least l) in
    mul-le-mul few low

-- k of p decimals, with a 0 for each of the others
pub filled-up : {v u : ℕ} (k p : ℕ) {q : ℕ} → v < 10 ^ k → u ≡ 10 ^ (p - k) → k ≤ p → p ≤ q → v * u ≤ 10 ^ q
filled-up {v} {u} k p {q} h e few l =
    let all : k + (p - k) ≡ p = omega arith in
    let whole : 10 ^ p ≡ 10 ^ k * 10 ^ (p - k) = ap (λ (n : ℕ). 10 ^ n) (sym all) ∙ pow-add 10 k (p - k) in
    let less : v * u ≤ 10 ^ k * 10 ^ (p - k) = product k (p - k) h (omega arith) e (omega arith) in
    omega (arith, less, whole, power-least l)

pub room : (loose : Bool) → most_units loose < 2 ^ 63
room true = omega arith
room false = omega arith

few-read : (loose : Bool) → (most_digits loose ≤ most_read) × (most_places loose ≤ most_read)
few-read true = (omega arith, omega arith)
few-read false = (omega arith, omega arith)

module _ {form : Form} (short : Short form) where
  pub digits-read : form.digits ≤ most_read
  digits-read = omega (arith, short.few_digits, few-read form.loose)

  pub places-read : form.places ≤ most_read
  places-read = omega (arith, short.few_places, few-read form.loose)

refused : (t : Bool) (a : Option ℕ) → (t ≡ true → ⊥) → fitting t a ≡ None
refused true a n = absurd (n refl)
refused false a n = refl

and_is : {s t : Bool} → s ≡ true → t ≡ true → (s && t) ≡ true
and_is {s} {t} e f = (and-eq-true_iff s t).1 (e, f)

accepted : (t : Bool) (a : Option ℕ) → t ≡ true → fitting t a ≡ a
accepted t a e = ap (λ (t : Bool). fitting t a) e

-- ---- an exponent

module _ {minus : Bool} {u : ℕ} (p v : ℕ) (e : u ≡ 10 ^ p) where
  pub scaled-times : minus ≡ false → Some (v * u) ≡ scaled minus p v
  scaled-times t = ap (λ (u : ℕ). Some (v * u)) e ∙ sym (ap (λ (t : Bool). scaled t p v) t)

  pub scaled-over : minus ≡ true → v % u ≡ 0 → Some (v / u) ≡ scaled minus p v
  scaled-over t z =
      ap (λ (u : ℕ). Some (v / u)) e ∙ sym (ap (λ (t : Bool). scaled t p v) t ∙ accepted _ _ (eq-eqb _ _ (subst (λ (u : ℕ). v % u ≡ 0) e z)))

  pub scaled-not : minus ≡ true → (v % u ≡ 0 → ⊥) → None ≡ scaled minus p v
  scaled-not t n =
      sym (ap (λ (t : Bool). scaled t p v) t ∙ refused _ _ (λ z. n (subst (λ (u : ℕ). v % u ≡ 0) (sym e) (eqb-true _ _ z))))

-- one digit, up to the most
pub record Power (w : List ℕ) : Type 0 where
  pub alone : length w ≡ 1
  pub digit : digits w ≡ 1
  pub small : value 0 w ≤ most_power

module _ (v : ℕ) (w u : List ℕ) (e : u ≡ unsigned w) where
  pub powered-is : Power u → powered v w ≡ scaled (negative w) (value 0 u) v
  unfolding powered
  powered-is h =
      let q = subst Power e h in
      accepted _ _ (and_is (eq-eqb _ _ q.alone) (and_is (eq-eqb _ _ q.digit) (le-leb _ _ q.small)))
      ∙ ap (λ (u : List ℕ). scaled (negative w) (value 0 u) v) (sym e)

  pub powered-not : (Power u → ⊥) → powered v w ≡ None
  unfolding powered
  powered-not n =
      refused _ _ (λ t.
      let p = (and-eq-true_iff (eqb (length (unsigned w)) 1) (eqb (digits (unsigned w)) 1 && leb (value 0 (unsigned w)) most_power)).0 t in
      let q = (and-eq-true_iff (eqb (digits (unsigned w)) 1) (leb (value 0 (unsigned w)) most_power)).0 p.1 in
      n (subst Power (sym e) (record { alone = eqb-true _ _ p.0; digit = eqb-true _ _ q.0; small = leb-true _ _ q.1 })))

pub exponent-end : (loose : Bool) (v : ℕ) (w : List ℕ) (at : ℕ) → at ≡ length w → exponent loose v (drop at w) ≡ Some v
unfolding exponent
exponent-end loose v w at e = rw (e, drop-length)

module _ (loose : Bool) (v : ℕ) (w : List ℕ) (at : ℕ) (h : at < length w) where
  exponent-in : exponent loose v (drop at w) ≡ fitting (loose && eqb (get_or w at 0) exponent_mark) (powered v (drop (at + 1) w))
  unfolding exponent
  exponent-in = ap (exponent loose v) (from-here w at h)

  pub exponent-is : loose ≡ true → get_or w at 0 ≡ exponent_mark → exponent loose v (drop at w) ≡ powered v (drop (at + 1) w)
  exponent-is l e = exponent-in ∙ accepted _ _ (and_is l (eq-eqb _ _ e))

  pub exponent-not : (loose ≡ true → get_or w at 0 ≡ exponent_mark → ⊥) → exponent loose v (drop at w) ≡ None
  exponent-not n =
      exponent-in ∙ refused _ _ (λ e. let p = (and-eq-true_iff loose (eqb (get_or w at 0) exponent_mark)).0 e in n p.0 (eqb-true _ _ p.1))

-- a digit is no `e`
pub digit-exponent : (loose : Bool) (v : ℕ) (w : List ℕ) (at : ℕ) → 0 < digits (drop at w) → exponent loose v (drop at w) ≡ None
digit-exponent loose v w at l =
    elim (dec_lt at (length w)) [
      | yes h ↦ exponent-not loose v w at h (λ _ e. omega (arith, digit-byte (get_or w at 0) (digit-here w at h l)))
      | no n ↦ absurd (omega (arith, digits-past w at n))
    ]

-- ---- a point

pub pointed-end : (w : List ℕ) (at : ℕ) → at ≡ length w → pointed (drop at w) ≡ false
pointed-end w at e = rw (e, drop-length)

pub pointed-in : (w : List ℕ) (at : ℕ) → at < length w → pointed (drop at w) ≡ is_point (class_of (get_or w at 0))
pointed-in w at h = ap pointed (from-here w at h)

pub pointed-low : (w : List ℕ) (at : ℕ) → pointed (drop at w) ≡ true → at < length w
pointed-low w at e =
    elim (dec_lt at (length w)) [
      | yes h ↦ h
      | no n ↦ never (sym (ap pointed (drop_of_length-le w {i = at} (omega arith))) ∙ e)
    ]

-- a digit is no point
digit-pointed : (w : List ℕ) (at : ℕ) → at < length w → 0 < digits (drop at w) → pointed (drop at w) ≡ false
digit-pointed w at h l = pointed-in w at h ∙ no-point (class_of (get_or w at 0)) (digit-here w at h l)
  where
    no-point : (k : Class) → is_digit k ≡ true → is_point k ≡ false
    no-point Digit e = refl
    no-point Space e = never e
    no-point Colon e = never e
    no-point Hash e = never e
    no-point Point e = never e
    no-point Minus e = never e
    no-point Star e = never e
    no-point Rest e = never e

-- ---- which words are numbers

pub enough-none : (loose : Bool) (n k : ℕ) → n ≡ 0 → (loose && ltb 0 k) ≡ enough loose n k
enough-none true n k e = rw e
enough-none false n k e = rw e

pub enough-whole : (loose : Bool) (n k : ℕ) → (n ≡ 0 → ⊥) → k ≡ 0 → loose ≡ enough loose n k
enough-whole true n k h e = sym (ap (λ (t : Bool). t || leb 1 k) (le-leb 1 n (omega arith)))
enough-whole false n k h e = sym (ap (λ (t : Bool). t && leb 1 k) (le-leb 1 n (omega arith)) ∙ ap (leb 1) e)

pub enough-both : (loose : Bool) (n k : ℕ) → (n ≡ 0 → ⊥) → (k ≡ 0 → ⊥) → true ≡ enough loose n k
enough-both true n k h l = sym (ap (λ (t : Bool). t || leb 1 k) (le-leb 1 n (omega arith)))
enough-both false n k h l = sym (and_is (le-leb 1 n (omega arith)) (le-leb 1 k (omega arith)))

module _ (form : Form) (n whole : ℕ) (w : List ℕ) where
  pub decimal-is : digits w ≤ form.places → enough form.loose n (digits w) ≡ true
      → after_point form n whole w ≡ exponent form.loose (whole + value 0 w * 10 ^ (form.places - digits w)) (drop (digits w) w)
  unfolding after_point
  decimal-is few some = accepted _ _ (and_is (le-leb _ _ few) some)

  pub decimal-not : (digits w ≤ form.places → enough form.loose n (digits w) ≡ true → ⊥) → after_point form n whole w ≡ None
  unfolding after_point
  decimal-not bad =
      refused _ _ (λ e. let p = (and-eq-true_iff (leb (digits w) form.places) (enough form.loose n (digits w))).0 e in bad (leb-true _ _ p.0) p.1)

  pub fraction-pointed : pointed w ≡ true → fraction form n whole w ≡ after_point form n whole (drop 1 w)
  unfolding fraction
  fraction-pointed e = rw e

  pub fraction-plain : pointed w ≡ false → 1 ≤ n → fraction form n whole w ≡ exponent form.loose whole w
  unfolding fraction
  fraction-plain e h = rw (e, le-leb 1 n h)

  pub fraction-none : pointed w ≡ false → n ≡ 0 → fraction form n whole w ≡ None
  unfolding fraction
  fraction-none e h = rw (e, h)

pub digit-fraction : (form : Form) (n whole : ℕ) (w : List ℕ) (at : ℕ) → 0 < digits (drop at w) → fraction form n whole (drop at w) ≡ None
digit-fraction form n whole w at l =
    elim (dec_lt at (length w)) [
      | yes h ↦ either (digit-pointed w at h l)
      | no past ↦ absurd (omega (arith, digits-past w at past))
    ]
  where
    either : pointed (drop at w) ≡ false → fraction form n whole (drop at w) ≡ None
    either e =
        elim (dec_lt 0 n) [
          | yes k ↦ fraction-plain form n whole (drop at w) e (omega arith) ∙ digit-exponent form.loose whole w at l
          | no k ↦ fraction-none form n whole (drop at w) e (omega arith)
        ]

module _ (form : Form) (w : List ℕ) where
  pub amount-is : digits w ≤ form.digits
      → amount_of form w ≡ fraction form (digits w) (value 0 w * 10 ^ form.places) (drop (digits w) w)
  unfolding amount_of
  amount-is h = accepted _ _ (le-leb (digits w) form.digits h)

  pub amount-not : (digits w ≤ form.digits → ⊥) → amount_of form w ≡ None
  unfolding amount_of
  amount-not n = refused _ _ (λ e. n (leb-true (digits w) form.digits e))
