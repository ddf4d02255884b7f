use Rattle.vectors.proofs.Prelude.{◌≡◌, refl, sym, ◌∙◌, arith, lit<, sum-none, foreseen_in, term_fits, term-added, answer}
use Rattle.sums.proofs.Regroup.{foreseen-terms}
use Rattle.vectors.proofs.foreseen_at.Goals as goal

pub loop-o-init : goal.loop-o-init
loop-o-init c = sym (sum-none _)

pub add_scaled-sum-requires-clause-a_bound : goal.add_scaled-sum-requires-clause-a_bound
add_scaled-sum-requires-clause-a_bound c =
    let (_, (_, (_, state))) = c.requires.n_le_max_states in
    let terms = foreseen-terms c.requires.observations_fit c.requires.chosen_fit state in
    (term_fits terms _ c.loop-o.invariant c.observation_at-w.ensures (answer c.entry_at-e.type_inv (c.entry_at-e.ensures ∙ rw c.choice_at.ensures refl))
    (omega arith) (lit< tt) (omega arith)).1

pub loop-o-preserved : goal.loop-o-preserved
loop-o-preserved c =
    let (_, (_, (_, state))) = c.requires.n_le_max_states in
    let terms = foreseen-terms c.requires.observations_fit c.requires.chosen_fit state in
    term-added terms _ c.loop-o.invariant c.observation_at-w.ensures (answer c.entry_at-e.type_inv (c.entry_at-e.ensures ∙ rw c.choice_at.ensures refl))
    (answer c.add_scaled-sum.type_inv c.add_scaled-sum.ensures)

pub returns : goal.returns
unfolding foreseen_in
returns c = let e : c.loop-o.o ≡ c.args.k = omega arith in rw e at c.loop-o.invariant
