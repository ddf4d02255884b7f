use Rattle.vectors.proofs.Prelude.{◌≡◌, sym, arith, lit<, sum-none, answer, onward_in, term_fits, term-added}
use Rattle.integers.proofs.Words.{back-small}
use Rattle.sums.proofs.Regroup.{onward-terms}
use Rattle.vectors.proofs.onward.Goals as goal

pub loop-to-init : goal.loop-to-init
loop-to-init c = sym (sum-none _)

pub add_scaled-sum-requires-clause-a_bound : goal.add_scaled-sum-requires-clause-a_bound
add_scaled-sum-requires-clause-a_bound c =
    let r = c.requires in
    let (_, (_, state)) = r.n_le_max_states in
    let terms = onward-terms r.transitions_fit r.within state in
    (term_fits terms _ c.loop-to.invariant c.transition_at-t.ensures (back-small _ (omega (arith, r.within.within c.loop-to.to (omega arith))))
    (omega arith) (lit< tt) (omega arith)).1

pub loop-to-preserved : goal.loop-to-preserved
loop-to-preserved c =
    let r = c.requires in
    let (_, (_, state)) = r.n_le_max_states in
    let terms = onward-terms r.transitions_fit r.within state in
    term-added terms _ c.loop-to.invariant c.transition_at-t.ensures (back-small _ (omega (arith, r.within.within c.loop-to.to (omega arith))))
    (answer c.add_scaled-sum.type_inv c.add_scaled-sum.ensures)

pub returns : goal.returns
unfolding onward_in
returns c = let e : c.loop-to.to ≡ c.args.n = omega arith in rw e at c.loop-to.invariant
