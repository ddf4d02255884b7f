use Rattle.std.proofs.lemmas.Grind.{common_steps}
use Rattle.integers.proofs.Kit.{arith}
use Rattle.headers.specs.Headers.{start_by}
use Rattle.headers.proofs.start_at.Goals as goal

pub returns : goal.returns
unfolding start_by
returns c = let read = rw c.requires.start_value at c.row_at.ensures in grind (arith, common_steps)
