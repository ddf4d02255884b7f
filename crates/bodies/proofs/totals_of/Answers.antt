use Rattle.std.proofs.lemmas.Grind.{common_steps}
use Rattle.integers.proofs.Kit.{ℕ, ◌+◌, ◌≡◌, ap, List, arith, get_or}
use Rattle.integers.specs.Whole.{total_to}
use Rattle.integers.proofs.Sums.{total-cong}
use Rattle.bodies.specs.Body.{sums_verdict}
use Rattle.bodies.proofs.totals_of.Goals as goal

-- the total of the start numbers
total : (start : List ℕ) (n : ℕ) → total_to n (λ s. get_or start (0 + s) 0) ≡ total_to n (λ s. get_or start s 0)
total start n = total-cong n _ _ (λ s l. let e : 0 + s ≡ s = omega arith in ap (λ (j : ℕ). get_or start j 0) e)

pub returns-then-row_total-ne-START : goal.returns-then-row_total-ne-START
unfolding sums_verdict
returns-then-row_total-ne-START c discount reward = let t = total c.args.start.now c.args.n in grind (arith, common_steps)

pub returns-in_err-placed_at : goal.returns-in_err-placed_at
unfolding sums_verdict
returns-in_err-placed_at c discount reward = let t = total c.args.start.now c.args.n in grind (arith, common_steps)

pub returns : goal.returns
unfolding sums_verdict
returns c discount reward = let t = total c.args.start.now c.args.n in grind (arith, common_steps)
