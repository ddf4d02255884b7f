use Rattle.integers.proofs.Kit.{◌∙◌, sym, arith, ne_eqb, eq-eqb}
use Rattle.integers.proofs.Searches.{every-none, every_more, every-not}
use Rattle.solver.proofs.Files.{vector-fine, node-fine, both-on}
use Rattle.solver.proofs.same_actions.Goals as goal

pub loop-v-init : goal.loop-v-init
loop-v-init c = (c.requires.1.1, every-none _)

pub unwrap-x-requires : goal.unwrap-x-requires
unwrap-x-requires c = vector-fine _ _ _ _ c.loop-v.invariant.0 (omega arith) _ c.alpha_at.ensures

pub unwrap-y-requires : goal.unwrap-y-requires
unwrap-y-requires c = node-fine _ _ _ _ c.loop-v.invariant.0 (omega arith) _ c.node_at.ensures

pub returns-then-x-y : goal.returns-then-x-y
returns-then-x-y c =
    let t = (both-on _ _ _ _ c.loop-v.invariant.0 (omega arith) _ _ c.alpha_at.ensures c.node_at.ensures).said _ _ c.unwrap-x.ensures c.unwrap-y.ensures in
    sym (every-not _ _ c.loop-v.v (omega arith) (ne_eqb _ _ (λ e. c.if-x-y.true (t.action ∙ e ∙ sym t.node-action))))

pub loop-v-preserved : goal.loop-v-preserved
loop-v-preserved c =
    let t = (both-on _ _ _ _ c.loop-v.invariant.0 (omega arith) _ _ c.alpha_at.ensures c.node_at.ensures).said _ _ c.unwrap-x.ensures c.unwrap-y.ensures in
    (t.onward, every_more c.loop-v.v _ c.loop-v.invariant.1 (eq-eqb _ _ (sym t.action ∙ c.if-x-y.false ∙ t.node-action)))
