use Rattle.integers.proofs.Kit.{◌≡◌, true}
use Rattle.intervals.specs.Intervals.{ranges_hold}
use Rattle.intervals.proofs.ranges_hold.Given as goal

abbrev pub invariant-loop-s : goal.invariant-loop-s
invariant-loop-s l = ranges_hold l.s l.lows l.highs ≡ true
