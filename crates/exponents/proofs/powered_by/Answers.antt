use Rattle.exponents.proofs.Prelude.{ℕ, ◌≡◌, sym, ap, ◌∙◌, arith, drop}
use Rattle.numerals.specs.Numeral.{negative, unsigned, scaled}
use mathlib.Core.Bool.{Bool}
use mathlib.Core.List.{List}
use lib.ListN.{length-drop}
use mir.Val.{bool_byte}
use Rattle.numerals.proofs.Laws.{past-minus, written-end, powered-is, powered-not}
use Rattle.exponents.proofs.powered_by.Goals as goal

-- the word from after its minus on
past : (r : Bool) (w : List ℕ) → r ≡ negative w → drop (bool_byte r) w ≡ unsigned w
past r w e = ap (λ (t : Bool). drop (bool_byte t) w) e ∙ past-minus (negative w) w

pub returns-then-d-from : goal.returns-then-d-from
returns-then-d-from c =
    let a = c.args in
    let d = c.digits_from-d.ensures in
    sym (powered-not a.v a.w.now _ (past _ a.w.now c.is_negative-minus.ensures)
    (λ p. omega (arith, p.digit, d.count, d.cut (omega (arith, p.digit, d.count)))))

pub returns-then-d-w : goal.returns-then-d-w
returns-then-d-w c =
    let a = c.args in
    let d = c.digits_from-d.ensures in
    sym (powered-not a.v a.w.now _ (past _ a.w.now c.is_negative-minus.ensures)
    (λ p. omega (arith, p.alone, d.up, length-drop (bool_byte c.is_negative-minus.result) a.w.now)))

pub returns-then-d-gt-POWER : goal.returns-then-d-gt-POWER
returns-then-d-gt-POWER c =
    let a = c.args in
    let d = c.digits_from-d.ensures in
    sym (powered-not a.v a.w.now _ (past _ a.w.now c.is_negative-minus.ensures)
    (λ p. omega (arith, p.small, written-end a.w.now d (omega (arith, d.low)))))

pub returns : goal.returns
returns c =
    let a = c.args in
    let n = c.is_negative-minus in
    let d = c.digits_from-d in
    let all = written-end a.w.now d.ensures (omega (arith, d.ensures.low)) in
    c.scaled_by.ensures ∙ ap (λ (t : Bool). scaled t d.result.value a.v) n.ensures
    ∙ ap (λ (p : ℕ). scaled (negative a.w.now) p a.v) all.1
    ∙ sym (powered-is a.v a.w.now (drop (bool_byte n.result) a.w.now) (past n.result a.w.now n.ensures) (record {
      alone = omega (arith, d.ensures.up, d.ensures.few, length-drop (bool_byte n.result) a.w.now);
      digit = omega (arith, d.ensures.up, d.ensures.few, all.0);
      small = omega (arith, all.1);
    }))
