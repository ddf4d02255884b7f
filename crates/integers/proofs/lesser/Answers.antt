use Rattle.integers.specs.Whole.{lesser}
use Rattle.integers.proofs.Kit.{rules}
use Rattle.integers.proofs.lesser.Goals as goal

pub returns : goal.returns
unfolding lesser
returns c = search rules
