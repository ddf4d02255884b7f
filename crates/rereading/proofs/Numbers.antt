-- Numbers that are written are read as what they are. Assumes nothing.
--
-- In order: digits; the words that digits make; what they are read as; the numbers of a model file.
use Rattle.std.specs.Prelude.{Some}
use Rattle.integers.proofs.Kit.{◌≡◌, ◌∙◌, refl, ap, sym, subst, subst⁻¹, true, false, Bool, cond, ◌&&◌, List, [], ◌∷◌, ℕ, ◌≤◌, ◌<◌, ◌+◌, ◌*◌, suc, zero, ◌^◌}
use Rattle.integers.proofs.Kit.{◌/◌, ◌%◌, ◌-◌, arith, length, drop, ltb, ne_eqb, le-leb, lt-ltb, le-ltb, dec_lt, ℤ, pos, negsuc, nat_abs}
use mathlib.Core.List.{◌++◌, append-nil}
use lib.ListN.{length-append}
use native.Mathlib.Nat.{div-add-mod', mod-lt, pow-suc, mul-one}
use Rattle.tables.specs.Limits.{one, start_total, max_reward}
use Rattle.words.specs.Class.{class_of}
use Rattle.words.specs.declared.Class.{Class}
use Rattle.words.specs.declared.Class.TheVariants.{Digit}
use Rattle.words.specs.Words.{role_of}
use Rattle.words.specs.Steps.{is_end}
use Rattle.numerals.specs.declared.Form.{Form}
use Rattle.numerals.specs.Numeral.{count_form, probability_form, start_form, reward_form}
use Rattle.numerals.specs.Numeral.{is_digit, is_minus, digits, value, negative, unsigned, signed, exponent, fraction, amount_of}
use Rattle.numerals.specs.Typed.{Digits, bytes, written, none}
use Rattle.numerals.proofs.Laws.{amount-is, fraction-plain, power-some}
use Rattle.numerals.proofs.Typed.{pointed-read}
use Rattle.grammar.specs.Grammar.{same}
use Rattle.written.specs.Text.{last_digits, digits_for, whole, fixed, signed_fixed}
use Rattle.rereading.proofs.Spelling.{plain, IsWord}

-- ---- digits

digit-class : (d : ℕ) → d ≤ 9 → class_of (48 + d) ≡ Digit
digit-class d h = simp (
  ne_eqb (48 + d) 32 (λ e. omega arith),
  ne_eqb (48 + d) 9 (λ e. omega arith),
  ne_eqb (48 + d) 13 (λ e. omega arith),
  ne_eqb (48 + d) 10 (λ e. omega arith),
  ne_eqb (48 + d) 58 (λ e. omega arith),
  ne_eqb (48 + d) 35 (λ e. omega arith),
  le-leb 48 (48 + d) (omega arith),
  le-leb (48 + d) 57 (omega arith),
)

-- the last c digits of v
unfoldable digits_of : ℕ → ℕ → List ℕ
digits_of zero v = []
digits_of (suc c) v = digits_of c (v / 10) ++ (v % 10 ∷ [])

bytes-append : (ds es : List ℕ) → bytes (ds ++ es) ≡ bytes ds ++ bytes es
bytes-append [] es = refl
bytes-append (d ∷ ds) es = ap (λ (l : List ℕ). (48 + d) ∷ l) (bytes-append ds es)

small-append : (ds : List ℕ) (d : ℕ) → Digits ds → d ≤ 9 → Digits (ds ++ (d ∷ []))
small-append [] d h l = (l, tt)
small-append (e ∷ ds) d (k, h) l = (k, small-append ds d h l)

written-append : (v : ℕ) (ds : List ℕ) (d : ℕ) → written v (ds ++ (d ∷ [])) ≡ written v ds * 10 + d
written-append v [] d = refl
written-append v (e ∷ ds) d = written-append (v * 10 + e) ds d

last_digits-bytes : (c v : ℕ) → last_digits c v ≡ bytes (digits_of c v)
unfolding last_digits digits_of
last_digits-bytes zero v = refl
last_digits-bytes (suc c) v =
    ap (λ (l : List ℕ). l ++ ((48 + v % 10) ∷ [])) (last_digits-bytes c (v / 10)) ∙ sym (bytes-append (digits_of c (v / 10)) (v % 10 ∷ []))

digits_long : (c v : ℕ) → length (digits_of c v) ≡ c
unfolding digits_of
digits_long zero v = refl
digits_long (suc c) v = length-append (digits_of c (v / 10)) (v % 10 ∷ []) ∙ omega (arith, digits_long c (v / 10))

digits-small : (c v : ℕ) → Digits (digits_of c v)
unfolding digits_of
digits-small zero v = tt
digits-small (suc c) v = small-append (digits_of c (v / 10)) (v % 10) (digits-small c (v / 10)) (omega arith)

digits-worth : (c v : ℕ) → v < 10 ^ c → written 0 (digits_of c v) ≡ v
unfolding digits_of
digits-worth zero v h = omega arith
digits-worth (suc c) v h =
    written-append 0 (digits_of c (v / 10)) (v % 10)
    ∙ omega (arith, digits-worth c (v / 10) (omega (arith, pow-suc 10 c)))

-- a text of digits, one or more up to `most`, that are worth v
record Writes (t : List ℕ) (most v : ℕ) : Type 0 where
  ds : List ℕ
  is : t ≡ bytes ds
  small : Digits ds
  some : 1 ≤ length ds
  few : length ds ≤ most
  worth : written 0 ds ≡ v

writes-last : (c most v : ℕ) → 1 ≤ c → c ≤ most → v < 10 ^ c → Writes (last_digits c v) most v
writes-last c most v h k l = record {
  ds = digits_of c v;
  is = last_digits-bytes c v;
  small = digits-small c v;
  some = omega (arith, digits_long c v);
  few = omega (arith, digits_long c v);
  worth = digits-worth c v l;
}

-- a whole number below 10,000, by how many digits it has
by-test : (P : ℕ → Type 0) (v k : ℕ) {a b : ℕ} → (v < k → P a) → (k ≤ v → P b) → P (cond (ltb v k) a b)
by-test P v k {a} {b} h l =
    elim (dec_lt v k) [
      | yes c ↦ subst⁻¹ (λ (t : Bool). P (cond t a b)) (lt-ltb v k c) (h c)
      | no c ↦ subst⁻¹ (λ (t : Bool). P (cond t a b)) (le-ltb v k (omega arith)) (l (omega arith))
    ]

by_size : (P : ℕ → Type 0) (v : ℕ) → (v < 10 → P 1) → (10 ≤ v → v < 100 → P 2) → (100 ≤ v → v < 1_000 → P 3) → (1_000 ≤ v → P 4) → P (digits_for v)
by_size P v one two three four = by-test P v 10 one (λ h. by-test P v 100 (two h) (λ h. by-test P v 1_000 (three h) four))

writes-whole : (most v : ℕ) → 1 ≤ most → (10 ≤ v → 2 ≤ most) → (100 ≤ v → 4 ≤ most) → v < 10_000 → Writes (whole v) most v
unfolding whole
writes-whole most v one two more h =
    by_size (λ c. Writes (last_digits c v) most v) v
    (λ l. writes-last 1 most v (omega arith) one (omega arith))
    (λ k l. writes-last 2 most v (omega arith) (two k) (omega arith))
    (λ k l. writes-last 3 most v (omega arith) (omega (arith, more (omega arith))) (omega arith))
    (λ k. writes-last 4 most v (omega arith) (more (omega arith)) (omega arith))

-- ---- the words that digits make

plain-digits : (ds r : List ℕ) → Digits ds → plain r ≡ true → plain (bytes ds ++ r) ≡ true
unfolding plain
plain-digits [] r h e = e
plain-digits (d ∷ ds) r (h, hs) e =
    ap (λ (k : Class). cond (is_end (role_of k)) false (plain (bytes ds ++ r))) (digit-class d h) ∙ plain-digits ds r hs e

plain-alone : (ds : List ℕ) → Digits ds → plain (bytes ds) ≡ true
unfolding plain
plain-alone ds h = subst (λ (l : List ℕ). plain l ≡ true) (append-nil (bytes ds)) (plain-digits ds [] h refl)

bytes-long : (ds : List ℕ) → length (bytes ds) ≡ length ds
bytes-long [] = refl
bytes-long (d ∷ ds) = ap suc (bytes-long ds)

-- no digit is another byte
no_digit : (k : ℕ) (ds r : List ℕ) → Digits ds → 1 ≤ length ds → ((d : ℕ) → d ≤ 9 → k ≡ 48 + d → ⊥) → same (k ∷ []) (bytes ds ++ r) ≡ false
unfolding same
no_digit k [] r h some other = absurd (omega arith)
no_digit k (d ∷ ds) r (h, hs) some other = ap (λ (t : Bool). t && same [] (bytes ds ++ r)) (ne_eqb k (48 + d) (other d h))

no_minus : (ds r : List ℕ) → Digits ds → 1 ≤ length ds → negative (bytes ds ++ r) ≡ false
no_minus [] r h some = absurd (omega arith)
no_minus (d ∷ ds) r (h, hs) some = ap is_minus (digit-class d h)

-- ---- what they are read as

digits-read : (ds : List ℕ) → Digits ds → digits (bytes ds) ≡ length ds
unfolding digits
digits-read [] h = refl
digits-read (d ∷ ds) (h, hs) = ap (λ (k : Class). cond (is_digit k) (suc (digits (bytes ds))) 0) (digit-class d h) ∙ ap suc (digits-read ds hs)

value_read : (v : ℕ) (ds : List ℕ) → Digits ds → value v (bytes ds) ≡ written v ds
unfolding value
value_read v [] h = refl
value_read v (d ∷ ds) (h, hs) =
    let s : v * 10 + ((48 + d) - 48) ≡ v * 10 + d = omega arith in
    ap (λ (k : Class). cond (is_digit k) (value (v * 10 + ((48 + d) - 48)) (bytes ds)) v) (digit-class d h) ∙ ap (λ (u : ℕ). value u (bytes ds)) s
    ∙ value_read (v * 10 + d) ds hs

none_left : (ds : List ℕ) → drop (length ds) (bytes ds) ≡ []
none_left [] = refl
none_left (d ∷ ds) = none_left ds

-- a number as a word: what it is read as, and that it is no sign or colon
pub record Number (form : Form) (w : List ℕ) (v : ℕ) : Type 0 where
  pub is_word : IsWord w
  pub amount : amount_of form w ≡ Some v
  pub other : (k : ℕ) → ((d : ℕ) → d ≤ 9 → k ≡ 48 + d → ⊥) → same (k ∷ []) w ≡ false

counted : (ds : List ℕ) → Digits ds → 1 ≤ length ds → length ds ≤ 2 → amount_of count_form (bytes ds) ≡ Some (written 0 ds)
unfolding exponent
counted ds h some few =
    let n = digits-read ds h in
    let v = written 0 ds * 10 ^ 0 in
    amount-is count_form (bytes ds) (omega (arith, n))
    ∙ ap (λ (i : ℕ). fraction count_form i (value 0 (bytes ds) * 10 ^ 0) (drop i (bytes ds))) n
    ∙ ap (λ (i : ℕ). fraction count_form (length ds) (i * 10 ^ 0) (drop (length ds) (bytes ds))) (value_read 0 ds h)
    ∙ ap (fraction count_form (length ds) v) (none_left ds) ∙ fraction-plain count_form (length ds) v [] refl some ∙ ap Some (mul-one (written 0 ds))

-- a count or an index
pub whole-number : (v : ℕ) → v < 100 → Number count_form (whole v) v
whole-number v h = by (writes-whole 2 v (omega arith) (λ _. omega arith) (λ l. absurd (omega arith)) (omega arith))
  where
    by : Writes (whole v) 2 v → Number count_form (whole v) v
    by w =
        let ds = w.ds in
        subst⁻¹ (λ (t : List ℕ). Number count_form t v) w.is (record {
          is_word = record { plainly = plain-alone ds w.small; some = omega (arith, bytes-long ds, w.some) };
          amount = counted ds w.small w.some w.few ∙ ap Some w.worth;
          other = λ k n. ap (same (k ∷ [])) (sym (append-nil (bytes ds))) ∙ no_digit k ds [] w.small w.some n;
        })

-- v units of a form, of which 10 ^ places make 1: the whole ones and the rest of them
units : (q r u p k : ℕ) → k ≡ p → q * u + r * 10 ^ (p - k) ≡ q * u + r
units q r u p k e =
    let z : p - k ≡ 0 = omega arith in
    ap (λ (i : ℕ). q * u + r * 10 ^ i) z ∙ ap (λ (i : ℕ). q * u + i) (mul-one r)

module _ (form : Form) (loose : form.loose ≡ true) (ds fs : List ℕ) (hd : Digits ds) (hf : Digits fs) where
  pointed-number : 1 ≤ length ds → length ds ≤ form.digits → length fs ≡ form.places
      → Number form (bytes ds ++ (46 ∷ bytes fs)) (written 0 ds * 10 ^ form.places + written 0 fs)
  unfolding plain
  pointed-number some few exact = record {
    is_word = record {
      plainly = plain-digits ds (46 ∷ bytes fs) hd (plain-alone fs hf);
      some = omega (arith, length-append (bytes ds) (46 ∷ bytes fs), bytes-long ds);
    };
    amount = ap (λ (l : List ℕ). amount_of form (bytes ds ++ (46 ∷ l))) (sym (append-nil (bytes fs)))
        ∙ pointed-read form loose ds none hd few tt fs hf (omega (arith, exact)) (omega arith)
        ∙ ap Some (units (written 0 ds) (written 0 fs) (10 ^ form.places) form.places (length fs) exact);
    other = λ k n. no_digit k ds (46 ∷ bytes fs) hd some n;
  }

-- such a number, with no minus
pub record Fixed (form : Form) (w : List ℕ) (v : ℕ) : Type 0 where
  pub number : Number form w v
  pub not_negative : negative w ≡ false

pub fixed_number : (form : Form) (v : ℕ) → form.loose ≡ true → 1 ≤ form.digits → (10 ≤ v / 10 ^ form.places → 4 ≤ form.digits)
    → v / 10 ^ form.places < 10_000 → Fixed form (fixed form.places v) v
unfolding fixed
fixed_number form v loose one many few =
    let p = form.places in
    by (writes-whole form.digits (v / 10 ^ p) one (λ h. omega (arith, many h)) (λ h. many (omega arith)) few)
    (last_digits-bytes p (v % 10 ^ p)) (digits-worth p (v % 10 ^ p) (mod-lt v (power-some p)))
  where
    by : Writes (whole (v / 10 ^ form.places)) form.digits (v / 10 ^ form.places)
        → last_digits form.places (v % 10 ^ form.places) ≡ bytes (digits_of form.places (v % 10 ^ form.places))
        → written 0 (digits_of form.places (v % 10 ^ form.places)) ≡ v % 10 ^ form.places
        → Fixed form (whole (v / 10 ^ form.places) ++ (46 ∷ last_digits form.places (v % 10 ^ form.places))) v
    by a b c =
        let p = form.places in
        let fs = digits_of p (v % 10 ^ p) in
        let text : bytes a.ds ++ (46 ∷ bytes fs) ≡ whole (v / 10 ^ p) ++ (46 ∷ last_digits p (v % 10 ^ p))
        = ap (λ (l : List ℕ). l ++ (46 ∷ bytes fs)) (sym a.is) ∙ ap (λ (l : List ℕ). whole (v / 10 ^ p) ++ (46 ∷ l)) (sym b) in
        let worth : written 0 a.ds * 10 ^ p + written 0 fs ≡ v
        = ap (λ (i : ℕ). i * 10 ^ p + written 0 fs) a.worth ∙ ap (λ (i : ℕ). v / 10 ^ p * 10 ^ p + i) c ∙ div-add-mod' v (10 ^ p) in
        record {
          number = subst (λ (w : List ℕ). Number form w v) text (subst (Number form (bytes a.ds ++ (46 ∷ bytes fs))) worth
              (pointed-number form loose a.ds fs a.small (digits-small p (v % 10 ^ p)) a.some a.few (digits_long p (v % 10 ^ p))));
          not_negative = subst (λ (w : List ℕ). negative w ≡ false) text (no_minus a.ds (46 ∷ bytes fs) a.small a.some);
        }

-- ---- the numbers of a model file

pub probability-number : (p : ℕ) → p ≤ one → Number probability_form (fixed 3 p) p
probability-number p h = (fixed_number probability_form p refl (omega arith) (λ l. absurd (omega arith)) (omega arith)).number

pub start-number : (p : ℕ) → p ≤ start_total → Number start_form (fixed 2 p) p
start-number p h = (fixed_number start_form p refl (omega arith) (λ l. absurd (omega arith)) (omega arith)).number

-- a reward: its magnitude after an optional minus, and its sign
pub record Reward (w : List ℕ) (r : ℤ) : Type 0 where
  pub is_word : IsWord w
  pub amount : amount_of reward_form (unsigned w) ≡ Some (nat_abs r)
  pub sign : signed (negative w) (nat_abs r) ≡ r

plus-reward : (w : List ℕ) (v : ℕ) → Fixed reward_form w v → Reward w (pos v)
plus-reward w v f = record {
  is_word = f.number.is_word;
  amount = ap (λ (t : Bool). amount_of reward_form (cond t (drop 1 w) w)) f.not_negative ∙ f.number.amount;
  sign = ap (λ (t : Bool). signed t v) f.not_negative;
}

minus-reward : (w : List ℕ) (v : ℕ) → Fixed reward_form w (suc v) → Reward (45 ∷ w) (negsuc v)
unfolding plain
minus-reward w v f = record {
  is_word = record { plainly = f.number.is_word.plainly; some = omega arith };
  amount = f.number.amount;
  sign = refl;
}

pub reward-number : (r : ℤ) → nat_abs r ≤ max_reward → Reward (signed_fixed 2 r) r
unfolding signed_fixed
reward-number (pos v) h = plus-reward (fixed 2 v) v (fixed_number reward_form v refl (omega arith) (λ _. omega arith) (omega arith))
reward-number (negsuc v) h = minus-reward (fixed 2 (suc v)) v (fixed_number reward_form (suc v) refl (omega arith) (λ _. omega arith) (omega arith))
