use Rattle.expected.proofs.Prelude.{◌≡◌, sym, arith, lit<, sum-none, term_fits, term-added, answer}
use Rattle.expected.specs.Steps.{outcomes_in}
use Rattle.expected.proofs.Expected.{seen-terms}
use Rattle.expected.proofs.seen.Goals as goal

pub loop-o-init : goal.loop-o-init
loop-o-init c = sym (sum-none _)

pub add_scaled-sum-requires-clause-a_bound : goal.add_scaled-sum-requires-clause-a_bound
add_scaled-sum-requires-clause-a_bound c =
    (term_fits (seen-terms c.requires) _ c.loop-o.invariant c.observation_at-w.ensures (answer c.outcome_at-r.type_inv c.outcome_at-r.ensures)
    c.loop-o-test.true (lit< tt) (omega (arith, c.requires.few_observations))).1

pub loop-o-preserved : goal.loop-o-preserved
loop-o-preserved c =
    term-added (seen-terms c.requires) _ c.loop-o.invariant c.observation_at-w.ensures (answer c.outcome_at-r.type_inv c.outcome_at-r.ensures)
    (answer c.add_scaled-sum.type_inv c.add_scaled-sum.ensures)

pub returns : goal.returns
unfolding outcomes_in
returns c = let e : c.loop-o.o ≡ c.args.k = omega arith in rw e at c.loop-o.invariant
