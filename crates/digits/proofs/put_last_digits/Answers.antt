use Rattle.digits.proofs.Prelude.{◌∙◌, ap, sym, ℕ, ◌≡◌, ◌<◌, ◌+◌, ◌-◌, length, arith}
use Rattle.digits.specs.Digits.{last_digits, text_over}
use Rattle.digits.proofs.Over.{over_none, digits-length, digits-turn}
use lib.ListN.{length-set}
use Rattle.digits.proofs.put_last_digits.Goals as goal

-- all places that are written lie in the slice
pub overflow_add-out : goal.overflow_add-out
overflow_add-out c =
    let i = c.loop-left.invariant in omega (arith, c.requires.fits, digits-length c.args.count c.args.v, i.within, i.long)

pub bounds-out-at : goal.bounds-out-at
bounds-out-at c =
    let i = c.loop-left.invariant in omega (arith, c.requires.fits, digits-length c.args.count c.args.v, i.within, i.long)

-- the last digit of what is left
pub loop-left-preserved : goal.loop-left-preserved
loop-left-preserved c =
    let a = c.args in
    let l = c.loop-left in
    let left = l.left - 1 in
    let one_less : left + 1 ≡ l.left = omega arith in
    let inside : a.at + left < length l.out = omega (arith, c.requires.fits, digits-length a.count a.v, l.invariant.within, l.invariant.long) in
    record {
      within = omega (arith, l.invariant.within);
      same =
          sym (digits-turn a.at left l.rest l.out inside c.digit.ensures)
          ∙ ap (λ (k : ℕ). text_over a.at (last_digits k l.rest) l.out) one_less
          ∙ l.invariant.same;
      long = length-set l.out _ _ ∙ l.invariant.long;
    }

pub overflow_add-result : goal.overflow_add-result
overflow_add-result c = omega (arith, c.requires.fits, digits-length c.args.count c.args.v, c.loop-left.invariant.long)

pub returns : goal.returns
unfolding last_digits
returns c =
    let l = c.loop-left in
    let none : l.left ≡ 0 = omega arith in
    record {
      place = omega (arith, digits-length c.args.count c.args.v);
      same =
          sym (over_none c.args.at l.out)
          ∙ ap (λ (k : ℕ). text_over c.args.at (last_digits k l.rest) l.out) (sym none)
          ∙ l.invariant.same;
    }
