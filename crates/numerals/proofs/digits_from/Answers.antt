use Rattle.numerals.proofs.Prelude.{ℕ, suc, ◌^◌, ◌<◌, ◌≡◌, refl, sym, ap, ◌∙◌, arith}
use Prim.Native.Nat.{◌+◌, ◌-◌, ◌*◌, ◌≤◌}
use lib.ListN.{drop, length, get_or}
use Rattle.numerals.specs.Numeral.{digits, is_digit}
use mathlib.Core.Bool.{true, false}
use mathlib.Core.List.{List}
use mathlib.Core.Path.{subst}
use native.Mathlib.Decide.{dec_lt}
use native.Mathlib.Nat.{pow-suc, pow-le-pow_right}
use Rattle.words.specs.declared.Class.{Class}
use Rattle.words.specs.declared.Class.TheVariants.{Space, Colon, Hash, Digit, Point, Minus, Star, Rest}
use Rattle.words.specs.Class.{class_of}
use Rattle.numerals.specs.Steps.{most_read, WrittenDigits}
use Rattle.numerals.proofs.Laws.{low_byte, digits-end, digits-stop, turn}
use Rattle.numerals.proofs.digits_from.Invariants.{Reading}
use Rattle.numerals.proofs.digits_from.Goals as goal

grown : (n v d : ℕ) → v < 10 ^ n → d ≤ 9 → v * 10 + d < 10 ^ suc n
grown n v d h k = rw pow-suc (omega arith)

small : (n v : ℕ) → v < 10 ^ n → n ≤ most_read → v < 10 ^ most_read
small n v h k = omega (arith, pow-le-pow_right {n = 10} (omega arith) {i = n} {j = most_read} k)

-- a class other than that of digits is none
other : (k : Class) → (k ≡ Digit → ⊥) → is_digit k ≡ false
other Digit h = absurd (h refl)
other Space h = refl
other Colon h = refl
other Hash h = refl
other Point h = refl
other Minus h = refl
other Star h = refl
other Rest h = refl

-- no more digits, or no room for them
module _ {w : List ℕ} {from most stop v at : ℕ} (r : Reading w from most stop v at) where
  done : (0 < digits (drop at w) → at ≡ from + most) → WrittenDigits w from most at v
  done cut = record {
    up = r.up;
    low = omega (arith, r.low, r.bound);
    few = omega (arith, r.low, r.bound);
    count = r.count;
    cut = cut;
    worth = r.worth;
    small = r.few;
  }

  -- at the end of the word there are none
  at-stop : at ≡ stop → 0 < digits (drop at w) → at ≡ from + most
  at-stop e h =
      elim (dec_lt stop (length w)) [
        | yes l ↦ e ∙ r.cut l
        | no n ↦ absurd (omega (arith, r.bound, digits-end w at (omega (arith, r.bound))))
      ]

  under : v < 10 ^ most_read
  under = small (at - from) v r.few (omega (arith, r.low, r.bound))

-- a byte below the digits is none
pub returns-then-b-lt48 : goal.returns-then-b-lt48
returns-then-b-lt48 c =
    let w = c.args.w.now in
    let l = c.loop-at in
    let e = digits-stop w l.at (omega arith) (low_byte (get_or w l.at 0) c.if-b-lt48.true) in
    done l.invariant (λ h. absurd (omega arith))

pub returns-in_default : goal.returns-in_default
returns-in_default c =
    let l = c.loop-at in
    let k = c.class_of-k in
    let e = digits-stop c.args.w.now l.at (omega arith) (sym (ap is_digit k.ensures) ∙ other k.result c.in_default.not-Digit) in
    done l.invariant (λ h. absurd (omega arith))

pub overflow_mul-v : goal.overflow_mul-v
overflow_mul-v c = omega (arith, under c.loop-at.invariant)

pub overflow_add-v : goal.overflow_add-v
overflow_add-v c = omega (arith, under c.loop-at.invariant, c.type_inv.w c.loop-at.at)

pub loop-at-preserved : goal.loop-at-preserved
loop-at-preserved c =
    let w = c.args.w.now in
    let from = c.args.from in
    let l = c.loop-at in
    let i = l.invariant in
    let d : is_digit (class_of (get_or w l.at 0)) ≡ true = ap is_digit (sym c.class_of-k.ensures ∙ c.in-Digit.is) in
    let t = turn w l.at (omega (arith, i.bound)) d in
    let e : (l.at + 1) - from ≡ suc (l.at - from) = omega arith in
    record {
      bound = i.bound;
      cut = i.cut;
      up = omega arith;
      low = omega arith;
      count = omega (arith, t.fewer, i.count);
      worth = sym (t.goes l.v) ∙ i.worth;
      few = rw e (grown (l.at - from) l.v (get_or w l.at 0 - 48) i.few (omega (arith, t.byte)));
    }

pub returns : goal.returns
returns c =
    let l = c.loop-at in
    let stop = c.bounded-stop.result in
    let e : l.at ≡ stop = omega arith in
    subst (λ (at : ℕ). WrittenDigits c.args.w.now c.args.from c.args.most at l.v) e (done l.invariant (at-stop l.invariant e))
