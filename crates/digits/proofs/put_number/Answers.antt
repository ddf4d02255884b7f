use Rattle.digits.proofs.Prelude.{wrote_then}
use Rattle.digits.proofs.put_number.Goals as goal

pub returns : goal.returns
returns c = wrote_then c.requires.1 c.put-x.ensures c.put_fixed.ensures
