use Rattle.integers.proofs.Kit.{◌≡◌, length}
use Rattle.integers.specs.Whole.{largest_to}
use Rattle.pricing.specs.Steps.{change_at}
use Rattle.pricing.proofs.largest_change.Given as goal

abbrev pub invariant-loop-old : goal.invariant-loop-old
invariant-loop-old l = l.most ≡ largest_to (length l.yielded) (change_at l.reward l.new)
