use Rattle.integers.proofs.Kit.{◌≡◌, ◌∙◌, sym, ap, arith}
use Rattle.refusals.proofs.Refusals.{first-none, first_more, first-here}
use Rattle.levels.specs.Judged.{masks_verdict}
use Rattle.levels.proofs.Laws.{passed, failed}
use Rattle.reaches.proofs.masks_hold.Invariants.{keeps}
use Rattle.reaches.proofs.masks_hold.Goals as goal

pub loop-v-init : goal.loop-v-init
loop-v-init c = first-none _

pub reached_covered-requires-clause-chooses : goal.reached_covered-requires-clause-chooses
reached_covered-requires-clause-chooses c = c.requires.reaching.chooses c.loop-v.v (omega arith)

pub returns-then-not-reached_covered : goal.returns-then-not-reached_covered
unfolding masks_verdict
returns-then-not-reached_covered c =
    let a = c.args in
    let said = c.if-not-reached_covered.ensures
    ∙ ap (keeps a.c a.transition.now a.observation.now a.masks.now a.choices.now a.covering.now c.loop-v.v) c.action.ensures in
    sym (first-here _ _ c.loop-v.v (omega arith) c.loop-v.invariant (failed _ _ (sym said)))

pub loop-v-preserved : goal.loop-v-preserved
loop-v-preserved c =
    let a = c.args in
    let said = c.if-not-reached_covered.ensures
    ∙ ap (keeps a.c a.transition.now a.observation.now a.masks.now a.choices.now a.covering.now c.loop-v.v) c.action.ensures in
    first_more _ _ c.loop-v.invariant (passed _ _ (sym said))

pub returns : goal.returns
unfolding masks_verdict
returns c =
    let e : c.loop-v.v ≡ c.args.vectors = omega arith in
    sym (rw e at c.loop-v.invariant)
