use Rattle.integers.proofs.Kit.{◌≡◌, sym, subst, List, ℕ, ◌<◌, arith, rules, length}
use Rattle.tables.specs.Limits.{max_states, max_levels}
use Rattle.tables.specs.Storage.{weight_in, tables_in}
use Rattle.plans.specs.Level.{IsPoint}
use Rattle.climbing.proofs.Climbing.{blank-opens, blank-points, climbed-0, built-given, built-accepted, climbed-next, totals-given}
use Rattle.ascent.proofs.levels_of.Goals as goal

pub fresh-h-requires : goal.fresh-h-requires
fresh-h-requires g c =
    let a = c.args in blank-opens (tables_in a.c a.transition.now a.observation.now a.reward.now) c.requires.valid c.requires.stored

pub loop-t-init : goal.loop-t-init
loop-t-init g c =
    let a = c.args in
    let m = tables_in a.c a.transition.now a.observation.now a.reward.now in
    let long : max_states ≡ length c.mixture-point.result = search (rules, c.mixture-point.type_inv) in
    let point = subst (λ (b : List ℕ). IsPoint a.c.states (weight_in b)) (sym c.mixture-point.ensures) c.requires.point in
    record {
      climbed = climbed-0 (blank-opens m c.requires.valid c.requires.stored) c.fresh-h.ensures;
      points = blank-points m c.requires.valid c.mixture-point.result long point;
    }

-- in a turn, the level is built and accepted
pub made-w-requires : goal.made-w-requires
made-w-requires g c = built-given c.loop-t.invariant.climbed c.loop-t.invariant.points (omega arith)

pub raised-h-requires : goal.raised-h-requires
raised-h-requires g c = built-accepted c.loop-t.invariant.climbed c.loop-t.invariant.points (omega arith) c.made-w.ensures

pub unwrap-r-requires : goal.unwrap-r-requires
unwrap-r-requires g c =
    let h = c.loop-t.invariant in
    let few : c.loop-t.t < max_levels = omega arith in
    rw c.asked.ensures (totals-given (climbed-next h.climbed h.points few c.made-w.ensures c.raised-h.ensures) h.points (omega arith))

pub loop-t-preserved : goal.loop-t-preserved
loop-t-preserved g c =
    let h = c.loop-t.invariant in
    record { climbed = climbed-next h.climbed h.points (omega arith) c.made-w.ensures c.raised-h.ensures; points = h.points }
