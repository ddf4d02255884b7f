use Rattle.std.proofs.Common.{◌≡◌}
use Rattle.sums.proofs.Prelude.{◌·◌, sum_to, weight_in, reward_in}
use Rattle.integers.specs.Whole.{◌·◌, sum_to}
use Rattle.tables.specs.Storage.{weight_in, reward_in}
use Rattle.sums.proofs.expected_reward.Given as goal

abbrev pub invariant-loop-s : goal.invariant-loop-s
invariant-loop-s l = l.sum ≡ sum_to l.s (λ i. weight_in l.p i · reward_in l.n l.cells i l.a.0)
