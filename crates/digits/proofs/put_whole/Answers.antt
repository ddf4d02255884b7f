use Rattle.integers.proofs.Kit.{ℕ, sym, subst}
use Rattle.digits.specs.Digits.{last_digits, whole}
use Rattle.digits.specs.Steps.{HasRoom, Wrote}
use Rattle.digits.proofs.put_whole.Goals as goal

pub put_last_digits-requires : goal.put_last_digits-requires
unfolding whole
put_last_digits-requires c = subst (λ (k : ℕ). HasRoom c.args.at (last_digits k c.args.v) c.args.out.now) (sym c.digits_for.ensures) c.requires

pub returns : goal.returns
unfolding whole
returns c =
    let p = c.put_last_digits in
    subst (λ (k : ℕ). Wrote c.args.at (last_digits k c.args.v) c.args.out.now p.result p.new.out) c.digits_for.ensures p.ensures
