use Rattle.exponents.proofs.Prelude.{ℕ, ◌≡◌, sym, ap, ◌∙◌, arith, drop}
use Prim.Native.Nat.{◌+◌, ◌-◌}
use mathlib.Core.Bool.{true≢false}
use mathlib.Core.List.{List}
use lib.ListN.{length, take, length-drop}
use lib.Seq.{take_all}
use Rattle.numerals.specs.Numeral.{powered}
use Rattle.numerals.proofs.Laws.{exponent-is, exponent-not}
use Rattle.exponents.proofs.marked_of.Goals as goal

rest-is : (at : ℕ) (w : List ℕ) → take (length w - at) (drop at w) ≡ drop at w
rest-is at w = take_all (length w - at) (drop at w) (omega (arith, length-drop at w))

pub returns-then-w-from-ne101 : goal.returns-then-w-from-ne101
returns-then-w-from-ne101 c =
    let a = c.args in
    sym (exponent-not a.loose a.v a.w.now a.from (omega arith) (λ l e. c.if-w-from-ne101.true e))

pub returns-then-not-loose : goal.returns-then-not-loose
returns-then-not-loose c =
    let a = c.args in
    sym (exponent-not a.loose a.v a.w.now a.from (omega arith) (λ l e. true≢false (sym l ∙ c.if-not-loose.true)))

pub returns : goal.returns
returns c =
    let a = c.args in
    c.powered_by.ensures ∙ ap (powered a.v) (rest-is (a.from + 1) a.w.now)
    ∙ sym (exponent-is a.loose a.v a.w.now a.from (omega arith) c.if-not-loose.false c.if-w-from-ne101.false)
