use Rattle.std.proofs.Common.{◌≡◌}
use Rattle.tables.specs.Storage.{reward_in}
use Rattle.validity.proofs.Prelude.{true, leb, every}
use lib.IntN.{nat_abs}
use Rattle.tables.specs.Limits.{max_reward}
use Rattle.validity.proofs.rewards_within.Given as goal

abbrev pub invariant-loop-s : goal.invariant-loop-s
invariant-loop-s l = every l.s (λ t. leb (nat_abs (reward_in l.n l.cells t l.a)) max_reward) ≡ true

abbrev pub invariant-loop-a : goal.invariant-loop-a
invariant-loop-a l = every l.a (λ b. every l.n (λ t. leb (nat_abs (reward_in l.n l.cells t b)) max_reward)) ≡ true
