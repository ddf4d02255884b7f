-- Words that were numbers before a part could be missing and an exponent follow are the same numbers. Assumes nothing.
--
-- In order: a plain form reads what it read before; and any form reads what a plain one reads.
use Rattle.std.specs.Prelude.{Option, Some, None}
use Prim.Native.Nat.{ℕ, suc, ◌+◌, ◌-◌, ◌*◌, ◌^◌, ◌≤◌}
use mathlib.Core.Path.{◌≡◌, refl, sym, ap, subst, ◌∙◌}
use mathlib.Core.Bool.{Bool, true, false, false≢true, ◌&&◌, ◌||◌, cond, and-eq-true_iff}
use mathlib.Core.List.{List, [], ◌∷◌}
use native.Mathlib.Omega.{arith}
use native.Mathlib.Decide.{dec_lt}
use borrow.Author.Tests.{eq-eqb, ne_eqb}
use lib.Dec.{eqb, leb}
use lib.ListN.{length, drop}
use Rattle.words.specs.Class.{class_of}
use Rattle.numerals.specs.declared.Form.{Form}
use Rattle.numerals.specs.Numeral.{is_digit, is_point, digits, value, fitting, exponent, pointed, enough, after_point, fraction, amount_of}
use Rattle.numerals.specs.Before.{plain, fraction_before, amount_before}
use Rattle.numerals.proofs.Laws.{exponent-end, exponent-not}

-- ---- a plain form reads what it read before

-- a plain number has no exponent: it ends where its digits end
plain_end : (v k : ℕ) (w : List ℕ) → k ≤ length w → exponent false v (drop k w) ≡ fitting (eqb k (length w)) (Some v)
plain_end v k w h =
    elim (dec_lt k (length w)) [
      | yes l ↦ exponent-not false v w k l (λ e _. false≢true e) ∙ sym (ap (λ (t : Bool). fitting t (Some v)) (ne_eqb k (length w) (λ e. omega arith)))
      | no n ↦
          let e : k ≡ length w = omega arith in
          exponent-end false v w k e ∙ sym (ap (λ (t : Bool). fitting t (Some v)) (eq-eqb k (length w) e))
    ]

pub digits-short : (w : List ℕ) → digits w ≤ length w
unfolding digits
digits-short [] = omega arith
digits-short (b ∷ w) = either (is_digit (class_of b)) (digits-short w)
  where
    either : (t : Bool) → digits w ≤ length w → cond t (suc (digits w)) 0 ≤ suc (length w)
    either true h = omega arith
    either false h = omega arith

-- the tests of then and now: digits (d, n), a point (p), decimals (q, k), the end (e)
same_tests : (d p q n k e : Bool) (a : Option ℕ)
    → fitting d (cond p (fitting (q && (n && k)) (fitting e a)) (fitting n None)) ≡ fitting (n && d) (fitting (p && (e && (k && q))) a)
same_tests false p q false k e a = refl
same_tests false p q true k e a = refl
same_tests true false q false k e a = refl
same_tests true false q true k e a = refl
same_tests true true false false k e a = refl
same_tests true true true false k e a = refl
same_tests true true false true k false a = refl
same_tests true true false true false true a = refl
same_tests true true false true true true a = refl
same_tests true true true true false false a = refl
same_tests true true true true false true a = refl
same_tests true true true true true false a = refl
same_tests true true true true true true a = refl

same_whole : (d n : Bool) (a : Option ℕ) → fitting d (fitting n a) ≡ fitting (n && d) a
same_whole false false a = refl
same_whole false true a = refl
same_whole true false a = refl
same_whole true true a = refl

module _ (form : Form) where
  pointed-plain : (d : Bool) (n whole : ℕ) (w : List ℕ)
      → fitting d (fraction (plain form) n whole w) ≡ fitting (leb 1 n && d) (fraction_before form.places whole w)
  unfolding fraction after_point exponent
  pointed-plain d n whole [] = same_whole d (leb 1 n) (Some whole)
  pointed-plain d n whole (b ∷ w) =
      let p = is_point (class_of b) in
      let q = leb (digits w) form.places in
      let k = leb 1 (digits w) in
      let v = whole + value 0 w * 10 ^ (form.places - digits w) in
      ap (λ (a : Option ℕ). fitting d (cond p (fitting (q && (leb 1 n && k)) a) (fitting (leb 1 n) None))) (plain_end v (digits w) w (digits-short w))
      ∙ same_tests d p q (leb 1 n) k (eqb (digits w) (length w)) (Some v)

  -- word by word
  pub plain-before : (w : List ℕ) → amount_of (plain form) w ≡ amount_before form w
  unfolding amount_of amount_before
  plain-before w = pointed-plain (leb (digits w) form.digits) (digits w) (value 0 w * 10 ^ form.places) (drop (digits w) w)

-- ---- and any form reads what a plain one reads

-- where the first is a number, the second is the same
abbrev pub Keeps : Option ℕ → Option ℕ → Type 0
Keeps (Some v) b = b ≡ Some v
Keeps None b = Unit

fitting-keeps : (s t : Bool) (a b : Option ℕ) → (s ≡ true → t ≡ true) → Keeps a b → Keeps (fitting s a) (fitting t b)
fitting-keeps true t (Some v) b h k = ap (λ (t : Bool). fitting t b) (h refl) ∙ k
fitting-keeps true t None b h k = tt
fitting-keeps false t a b h k = tt

exponent-keeps : (loose : Bool) (v : ℕ) (w : List ℕ) → Keeps (exponent false v w) (exponent loose v w)
unfolding exponent
exponent-keeps loose v [] = refl
exponent-keeps loose v (b ∷ w) = tt

enough-keeps : (loose : Bool) (n k : ℕ) → enough false n k ≡ true → enough loose n k ≡ true
enough-keeps true n k e = ap (λ (t : Bool). t || leb 1 k) ((and-eq-true_iff (leb 1 n) (leb 1 k)).0 e).0
enough-keeps false n k e = e

and_keeps : (s a b : Bool) → (a ≡ true → b ≡ true) → (s && a) ≡ true → (s && b) ≡ true
and_keeps true a b h e = h e
and_keeps false a b h e = e

module _ (form : Form) where
  decimal-keeps : (n whole : ℕ) (w : List ℕ) → Keeps (after_point (plain form) n whole w) (after_point form n whole w)
  unfolding after_point
  decimal-keeps n whole w =
      fitting-keeps _ _ _ _ (and_keeps (leb (digits w) form.places) _ _ (enough-keeps form.loose n (digits w))) (exponent-keeps form.loose _ _)

  fraction-keeps : (n whole : ℕ) (w : List ℕ) → Keeps (fraction (plain form) n whole w) (fraction form n whole w)
  unfolding fraction
  fraction-keeps n whole w = either (pointed w)
    where
      either : (t : Bool) → Keeps (cond t (after_point (plain form) n whole (drop 1 w)) (fitting (leb 1 n) (exponent false whole w)))
          (cond t (after_point form n whole (drop 1 w)) (fitting (leb 1 n) (exponent form.loose whole w)))
      either true = decimal-keeps n whole (drop 1 w)
      either false = fitting-keeps (leb 1 n) (leb 1 n) (exponent false whole w) (exponent form.loose whole w) (λ e. e) (exponent-keeps form.loose whole w)

  pub plain-keeps : (w : List ℕ) → Keeps (amount_of (plain form) w) (amount_of form w)
  unfolding amount_of
  plain-keeps w =
      let whole = value 0 w * 10 ^ form.places in
      let rest = drop (digits w) w in
      fitting-keeps (leb (digits w) form.digits) (leb (digits w) form.digits) (fraction (plain form) (digits w) whole rest)
      (fraction form (digits w) whole rest) (λ e. e) (fraction-keeps (digits w) whole rest)

  -- a word that was a number before is the same number
  pub before-keeps : (w : List ℕ) → Keeps (amount_before form w) (amount_of form w)
  before-keeps w = subst (λ (a : Option ℕ). Keeps a (amount_of form w)) (plain-before form w) (plain-keeps w)

  pub read-before : (w : List ℕ) (v : ℕ) → amount_before form w ≡ Some v → amount_of form w ≡ Some v
  read-before w v e = subst (λ (a : Option ℕ). Keeps a (amount_of form w)) e (before-keeps w)
