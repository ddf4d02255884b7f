use Rattle.integers.proofs.Kit.{◌∙◌, sym, ap, true, ℕ, arith, set}
use Rattle.integers.proofs.Lists.{filled-below, padded-none, padded-turn}
use Rattle.tables.specs.Limits.{max_states}
use Rattle.sums.specs.Steps.{seen_in}
use Rattle.tables.proofs.Fitting.{row-alone}
use Rattle.masks.proofs.Bits.{mask-covers}
use Rattle.candidates.proofs.Candidates.{found_in, picked-from}
use Rattle.candidates.proofs.choose.Goals as goal

pub loop-o-init : goal.loop-o-init
loop-o-init c = sym (padded-none _ _ _)

pub best_vector-best-requires-clause-below : goal.best_vector-best-requires-clause-below
best_vector-best-requires-clause-below c =
    let a = c.args in
    filled-below max_states (seen_in a.n a.k a.observation.now a.u.now a.a.0 c.loop-o.o) c.successors-q.ensures c.requires.n_le_max_states.0
    (c.requires.by_index c.loop-o.o c.loop-o-test.true)

pub best_vector-best-requires-clause-by_index : goal.best_vector-best-requires-clause-by_index
best_vector-best-requires-clause-by_index c = λ s b above. rw c.all-all.ensures (mask-covers c.args.n (λ s. true) s b)

pub put_choice-requires-clause-chosen_lt_max_vectors : goal.put_choice-requires-clause-chosen_lt_max_vectors
put_choice-requires-clause-chosen_lt_max_vectors c =
    let (_, (_, (_, (_, some_vector)))) = c.requires.n_le_max_states in
    found_in _ _ _ c.best_vector-best.ensures some_vector c.requires.masked_fit.few

pub loop-o-preserved : goal.loop-o-preserved
loop-o-preserved c =
    let a = c.args in
    let o = c.loop-o.o in
    c.put_choice.ensures
    ∙ ap (λ (i : ℕ). set c.loop-o.chosen i c.best_vector-best.result.0) (row-alone a.k o)
    ∙ padded-turn _ _ _ _ c.loop-o.invariant
    (picked-from a.n a.k a.observation.now a.u.now a.masks.now a.entries.now a.count a.a.0 o c.successors-q.ensures c.all-all.ensures
    c.best_vector-best.ensures)
    (omega arith)
