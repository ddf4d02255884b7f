use Rattle.expected.proofs.Prelude.{◌≡◌, ◌∙◌, sym, arith, lit<, sum-none, term_fits, term-added, answer}
use Rattle.expected.proofs.Expected.{expected-seen, ready-seen, ready-terms}
use Rattle.expected.proofs.millionths.Goals as goal

pub loop-to-init : goal.loop-to-init
loop-to-init c = sym (sum-none _)

pub seen-r-requires : goal.seen-r-requires
seen-r-requires c = ready-seen c.requires.expect_ready c.requires.a_lt_actions.0 c.requires.a_lt_actions.1 c.loop-to-test.true

pub add_scaled-sum-requires-clause-a_bound : goal.add_scaled-sum-requires-clause-a_bound
add_scaled-sum-requires-clause-a_bound c =
    let r = c.requires in
    (term_fits (ready-terms r.expect_ready r.a_lt_actions.0 r.a_lt_actions.1) _ c.loop-to.invariant c.transition_at-t.ensures
    (answer c.seen-r.type_inv c.seen-r.ensures) c.loop-to-test.true (lit< tt) (omega (arith, r.expect_ready.few_states))).1

pub loop-to-preserved : goal.loop-to-preserved
loop-to-preserved c =
    let r = c.requires in
    term-added (ready-terms r.expect_ready r.a_lt_actions.0 r.a_lt_actions.1) _ c.loop-to.invariant c.transition_at-t.ensures
    (answer c.seen-r.type_inv c.seen-r.ensures) (answer c.add_scaled-sum.type_inv c.add_scaled-sum.ensures)

pub returns : goal.returns
returns c =
    let a = c.args in
    let e : c.loop-to.to ≡ a.c.states = omega arith in
    rw e at c.loop-to.invariant ∙ expected-seen a.c a.transition.now a.observation.now a.outcomes.now a.s.0 a.a.0
