use Rattle.std.proofs.Common.{rules}
use Rattle.plans.specs.Limits.{range}
use Rattle.standing.proofs.range_of.Goals as goal

pub returns : goal.returns
unfolding range
returns c = search rules
