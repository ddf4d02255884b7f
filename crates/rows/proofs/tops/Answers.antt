use Rattle.rows.proofs.Prelude.{◌∙◌, refl, sym, arith, answer}
use Rattle.integers.proofs.Lists.{padded-none, padded-turn}
use Rattle.rows.proofs.Stepped.{highest-limit}
use Rattle.rows.proofs.tops.Goals as goal

pub loop-s-init : goal.loop-s-init
loop-s-init c = sym (padded-none _ _ _)

pub scaled-requires-clause-a_bound : goal.scaled-requires-clause-a_bound
scaled-requires-clause-a_bound c =
    let r = c.requires in
    rw (answer c.highest_at.type_inv c.highest_at.ensures)
    (omega (arith, highest-limit r.entries_fit r.n_le_max_states.1.0 c.loop-s.s c.loop-s-test.true))

pub loop-s-preserved : goal.loop-s-preserved
loop-s-preserved c =
    padded-turn _ _ _ _ c.loop-s.invariant
    (answer c.scaled.type_inv (c.scaled.ensures ∙ rw (answer c.highest_at.type_inv c.highest_at.ensures) refl)) (omega arith)
