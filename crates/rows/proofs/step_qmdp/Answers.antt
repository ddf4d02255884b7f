use Rattle.rows.proofs.Prelude.{◌*◌, ◌≡◌, sym, ◌∙◌, ap, arith, pos, answer}
use Rattle.integers.proofs.Kit.{ℤ}
use Rattle.integers.specs.Whole.{ceil_div}
use Rattle.integers.specs.Cells.{laid_rows}
use Rattle.integers.proofs.Lists.{laid_none, laid-turn}
use Rattle.tables.specs.Limits.{K}
use Rattle.rows.proofs.Stepped.{tops_within, qmdp-made, action_in}
use Rattle.rows.proofs.step_qmdp.Goals as goal

pub loop-i-init : goal.loop-i-init
loop-i-init c = λ O. sym (laid_none _ _)

pub backup-b-requires-clause-transitions_fit : goal.backup-b-requires-clause-transitions_fit
backup-b-requires-clause-transitions_fit c = let h = c.requires.ready in h.transitions _ (action_in h c.loop-i-test.true)

pub backup-b-requires-clause-rewards_fit : goal.backup-b-requires-clause-rewards_fit
backup-b-requires-clause-rewards_fit c = let h = c.requires.ready in h.rewards _ (action_in h c.loop-i-test.true)

pub backup-b-requires-clause-within : goal.backup-b-requires-clause-within
backup-b-requires-clause-within c = let h = c.requires.ready in tops_within h.rows_fit h.some_actions h.few_states c.tops-f.ensures

pub loop-i-preserved : goal.loop-i-preserved
unfolding K
loop-i-preserved c =
    let a = c.args in
    λ O. laid-turn _ _ _ (pos 0) (c.loop-i.invariant O)
    (answer c.ceil_div.type_inv (c.ceil_div.ensures ∙ ap (λ (z : ℤ). ceil_div z K) (answer c.backup-b.type_inv c.backup-b.ensures)
    ∙ qmdp-made a.c a.transition.now O a.reward.now a.rows.now _ _ c.tops-f.ensures)) (omega arith)

pub returns : goal.returns
unfolding laid_rows
returns c =
    let a = c.args.c in
    let e : c.loop-i.i ≡ a.actions * a.states = omega arith in
    λ O. rw e at (c.loop-i.invariant O)
