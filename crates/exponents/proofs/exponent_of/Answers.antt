use Rattle.exponents.proofs.Prelude.{sym}
use Rattle.numerals.proofs.Laws.{exponent-end}
use Rattle.exponents.proofs.exponent_of.Goals as goal

pub returns-then-from-w : goal.returns-then-from-w
returns-then-from-w c = sym (exponent-end _ _ _ _ c.if-from-w.true)
