use Rattle.std.proofs.Common.{◌≡◌, refl, sym, arith}
use Rattle.integers.proofs.Kit.{lit<}
use Rattle.integers.proofs.Sums.{sum-none}
use Rattle.integers.proofs.Terms.{Terms, term_fits, term-added}
use Rattle.integers.proofs.Words.{answer}
use Rattle.tables.specs.Limits.{max_weight, max_reward}
use Rattle.tables.specs.Storage.{weight_in, reward_in}
use Rattle.sums.specs.Steps.{expected_in}
use Rattle.sums.proofs.expected_reward.Goals as goal

pub loop-s-init : goal.loop-s-init
loop-s-init c = sym (sum-none _)

pub add_scaled-sum-requires-clause-a_bound : goal.add_scaled-sum-requires-clause-a_bound
add_scaled-sum-requires-clause-a_bound c =
    let terms : Terms c.args.n max_weight max_reward (weight_in c.args.p.now) (λ s. reward_in c.args.n c.args.cells.now s c.args.a.0)
    = record { weights = c.requires.below.below; values = c.requires.rewards_fit.reward } in
    (term_fits terms _ c.loop-s.invariant refl (answer c.reward_at-r.type_inv c.reward_at-r.ensures) (omega arith) (lit< tt) (omega arith)).1

pub loop-s-preserved : goal.loop-s-preserved
loop-s-preserved c =
    let terms : Terms c.args.n max_weight max_reward (weight_in c.args.p.now) (λ s. reward_in c.args.n c.args.cells.now s c.args.a.0)
    = record { weights = c.requires.below.below; values = c.requires.rewards_fit.reward } in
    term-added terms _ c.loop-s.invariant refl (answer c.reward_at-r.type_inv c.reward_at-r.ensures) (answer c.add_scaled-sum.type_inv c.add_scaled-sum.ensures)

pub returns : goal.returns
unfolding expected_in
returns c = let e : c.loop-s.s ≡ c.args.n = omega arith in rw e at c.loop-s.invariant
