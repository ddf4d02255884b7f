use Rattle.amounts.proofs.Prelude.{ℕ, ◌-◌, ◌*◌, ◌^◌, ◌≤◌, ◌≡◌, sym, ap, ◌∙◌, arith, drop, digits, value}
use mathlib.Core.List.{List}
use native.Mathlib.Decide.{dec_lt}
use lib.Seq.{drop-drop}
use Rattle.numerals.specs.declared.Form.{Form}
use Rattle.numerals.specs.Steps.{most_whole, Short, WrittenDigits}
use Rattle.numerals.proofs.Laws.{product, room, amount-is, amount-not, written_all, digit-fraction}
use Rattle.amounts.proofs.amount_of.Goals as goal

-- the whole part is small
small : {form : Form} {w : List ℕ} {from end v u : ℕ} → Short form → WrittenDigits w from form.digits end v → u ≡ 10 ^ form.places
    → v * u ≤ most_whole form.loose
small s d e = product _ _ d.small (omega (arith, d.few, s.few_digits)) e s.few_places

pub overflow_mul-d : goal.overflow_mul-d
overflow_mul-d c = omega (arith, small c.requires.1 c.digits_from-d.ensures c.scale.ensures, room c.args.form.loose)

pub fraction_of-requires : goal.fraction_of-requires
fraction_of-requires c = (c.digits_from-d.ensures.low, (c.requires.1, small c.requires.1 c.digits_from-d.ensures c.scale.ensures))

pub returns : goal.returns
returns c =
    let a = c.args in
    let w = drop a.from a.w.now in
    let d = c.digits_from-d in
    let u = c.scale in
    elim (dec_lt 0 (digits (drop d.result.end a.w.now))) [
      | yes more ↦
          c.fraction_of.ensures ∙ digit-fraction a.form (d.result.end - a.from) (d.result.value * u.result) a.w.now d.result.end more
          ∙ sym (amount-not a.form w (λ few. omega (arith, d.ensures.count, d.ensures.cut more)))
      | no none ↦
          let all = written_all a.w.now d.ensures (omega arith) in
          let whole : d.result.value * u.result ≡ value 0 w * 10 ^ a.form.places = cc (all.1, u.ensures) in
          let some : d.result.end - a.from ≡ digits w = omega (arith, all.0) in
          let rest : drop d.result.end a.w.now ≡ drop (digits w) w = ap (λ (n : ℕ). drop n a.w.now) all.0 ∙ sym
          (drop-drop (digits w) a.from a.w.now) in
          c.fraction_of.ensures ∙ rw (whole, rest, some) (sym (amount-is a.form w (omega (arith, all.0, d.ensures.few))))
    ]
