use Rattle.amounts.proofs.Prelude.{ℕ, ◌-◌, ◌*◌, ◌^◌, ◌≤◌, ◌≡◌, sym, ap, ◌∙◌, arith, drop, digits, value}
use Prim.Native.Nat.{◌+◌}
use mathlib.Core.Bool.{true, true≢false}
use mathlib.Core.List.{List}
use native.Mathlib.Decide.{dec_lt}
use lib.Seq.{drop-drop}
use Rattle.numerals.specs.declared.Form.{Form}
use Rattle.numerals.specs.Numeral.{enough, exponent}
use Rattle.numerals.specs.Steps.{most_places, Short, WrittenDigits}
use Rattle.numerals.proofs.Laws.{filled-up, room, decimal-is, decimal-not, written_all, digit-exponent}
use Rattle.amounts.proofs.decimal_of.Goals as goal

-- digits that are not too many are all read
all_read : (w : List ℕ) {from most end v : ℕ} → WrittenDigits w from most end v → digits (drop from w) ≤ most → end - from ≡ digits (drop from w)
all_read w {from} {most} {end} d few =
    elim (dec_lt 0 (digits (drop end w))) [
      | yes more ↦ absurd (omega (arith, d.count, d.cut more))
      | no none ↦ omega (arith, d.count)
    ]

-- what is read of the fraction is small
small : {form : Form} {w : List ℕ} {from end v u : ℕ} → Short form → WrittenDigits w from form.places end v → u ≡ 10 ^ (form.places - (end - from))
    → v * u ≤ 10 ^ most_places form.loose
small s d e = filled-up _ _ d.small e (omega (arith, d.few)) s.few_places

pub returns-then-not-is_enough : goal.returns-then-not-is_enough
returns-then-not-is_enough c =
    let a = c.args in
    let d = c.digits_from-d.ensures in
    sym (decimal-not a.form a.n a.whole (drop a.from a.w.now)
    (λ few some. true≢false (sym some ∙ sym (ap (enough a.form.loose a.n) (all_read a.w.now d few)) ∙ sym c.is_enough.ensures ∙ c.if-not-is_enough.true)))

pub overflow_mul-d : goal.overflow_mul-d
overflow_mul-d c = omega (arith, small c.requires.1.0 c.digits_from-d.ensures c.scale.ensures, room c.args.form.loose)

pub overflow_add-whole : goal.overflow_add-whole
overflow_add-whole c = omega (arith, small c.requires.1.0 c.digits_from-d.ensures c.scale.ensures, room c.args.form.loose)

pub exponent_of-requires : goal.exponent_of-requires
exponent_of-requires c =
    (c.digits_from-d.ensures.low, omega (arith, small c.requires.1.0 c.digits_from-d.ensures c.scale.ensures))

pub returns : goal.returns
returns c =
    let a = c.args in
    let w = drop a.from a.w.now in
    let d = c.digits_from-d in
    let u = c.scale in
    let v = a.whole + d.result.value * u.result in
    elim (dec_lt 0 (digits (drop d.result.end a.w.now))) [
      | yes more ↦
          c.exponent_of.ensures ∙ digit-exponent a.form.loose v a.w.now d.result.end more
          ∙ sym (decimal-not a.form a.n a.whole w (λ few some. omega (arith, d.ensures.count, d.ensures.cut more)))
      | no none ↦
          let all = written_all a.w.now d.ensures (omega arith) in
          let k : d.result.end - a.from ≡ digits w = omega (arith, all.0) in
          let e : u.result ≡ 10 ^ (a.form.places - digits w) = rw k at u.ensures in
          let worth : v ≡ a.whole + value 0 w * 10 ^ (a.form.places - digits w) = cc (all.1, e) in
          let rest : drop d.result.end a.w.now ≡ drop (digits w) w = ap (λ (n : ℕ). drop n a.w.now) all.0 ∙ sym
          (drop-drop (digits w) a.from a.w.now) in
          let some : enough a.form.loose a.n (digits w) ≡ true = sym (ap (enough a.form.loose a.n) k)
          ∙ sym c.is_enough.ensures ∙ c.if-not-is_enough.false in
          c.exponent_of.ensures ∙ ap (λ (v : ℕ). exponent a.form.loose v (drop d.result.end a.w.now)) worth
          ∙ ap (λ (l : List ℕ). exponent a.form.loose (a.whole + value 0 w * 10 ^ (a.form.places - digits w)) l) rest
          ∙ sym (decimal-is a.form a.n a.whole w (omega (arith, all.0, d.ensures.few)) some)
    ]
