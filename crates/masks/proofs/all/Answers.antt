use Rattle.masks.proofs.Bits.{mask-doubled}
use Rattle.masks.proofs.all.Goals as goal

pub returns : goal.returns
returns c = rw c.only.ensures (mask-doubled c.args.n c.requires.0)
