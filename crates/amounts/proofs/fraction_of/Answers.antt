use Rattle.amounts.proofs.Prelude.{sym, ap, ◌∙◌, arith, drop}
use lib.Seq.{drop-drop}
use Rattle.numerals.specs.Numeral.{after_point}
use Rattle.numerals.proofs.Laws.{fraction-pointed, fraction-plain, fraction-none}
use Rattle.amounts.proofs.fraction_of.Goals as goal

pub returns-then-is_pointed : goal.returns-then-is_pointed
returns-then-is_pointed c =
    let a = c.args in
    c.decimal_of.ensures ∙ ap (after_point a.form a.n a.whole) (sym (drop-drop 1 a.from a.w.now))
    ∙ sym (fraction-pointed a.form a.n a.whole (drop a.from a.w.now) (sym c.is_pointed.ensures ∙ c.if-is_pointed.true))

pub returns-then-n-eq0 : goal.returns-then-n-eq0
returns-then-n-eq0 c =
    let a = c.args in
    sym (fraction-none a.form a.n a.whole (drop a.from a.w.now) (sym c.is_pointed.ensures ∙ c.if-is_pointed.false)
    c.if-n-eq0.true)

pub returns : goal.returns
returns c =
    let a = c.args in
    c.exponent_of.ensures ∙ sym (fraction-plain a.form a.n a.whole (drop a.from a.w.now)
    (sym c.is_pointed.ensures ∙ c.if-is_pointed.false) (omega arith))
