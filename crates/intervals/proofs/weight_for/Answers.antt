use Rattle.integers.proofs.Kit.{to_z-of_z}
use Rattle.intervals.proofs.Ranges.{weight-under, weight-over}
use Rattle.intervals.proofs.weight_for.Goals as goal

pub returns-then-e-lt0 : goal.returns-then-e-lt0
returns-then-e-lt0 c = let a = c.args in weight-under a.over a.under a.e (rw (to_z-of_z c.ranges.e) at c.if-e-lt0.true)

pub returns : goal.returns
returns c = let a = c.args in weight-over a.over a.under a.e (rw (to_z-of_z c.ranges.e) at c.if-e-lt0.false)
