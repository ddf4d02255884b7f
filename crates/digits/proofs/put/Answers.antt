use Rattle.integers.proofs.Kit.{◌∙◌, refl}
use Rattle.digits.proofs.Over.{over-paste}
use Rattle.digits.proofs.put.Goals as goal

pub returns : goal.returns
returns c = record { place = refl; same = c.paste.ensures ∙ over-paste _ _ _ }
