use Rattle.roofs.proofs.Prelude.{◌≡◌, ◌<◌, ◌^◌, refl, sym, ◌∙◌, arith, rules, w64, to_z, of_z, to_z-of_z, mag, get_or, pos, ◌·◌, answer, back, K}
use Rattle.integers.proofs.Searches.{every-none, every_more, every-not}
use Rattle.roofs.proofs.Covering.{not-below, is_below}
use Rattle.roofs.proofs.covers.Goals as goal
use Rattle.roofs.proofs.covers.Goals.{After-scaled-most}

-- K × the value
most : (c : After-scaled-most) → to_z w64 (of_z w64 c.scaled-most.result) ≡ K · c.args.w
unfolding K
most c = answer c.scaled-most.type_inv (c.scaled-most.ensures ∙ rw (to_z-of_z c.ranges.w))

pub loop-a-init : goal.loop-a-init
loop-a-init c = every-none _

pub returns-then-most-backups : goal.returns-then-most-backups
returns-then-most-backups c =
    let fits : mag (get_or c.args.backups.now c.loop-a.a (pos 0)) < 2 ^ 63 = search rules in
    sym (every-not _ _ c.loop-a.a (omega arith)
    (is_below (most (goal.at.returns-then-most-backups c).After-scaled-most) (back _ fits) c.if-most-backups.true))

pub loop-a-preserved : goal.loop-a-preserved
loop-a-preserved c =
    let fits : mag (get_or c.args.backups.now c.loop-a.a (pos 0)) < 2 ^ 63 = search rules in
    every_more _ _ c.loop-a.invariant (not-below {a = to_z w64 (of_z w64 c.scaled-most.result)} refl (back _ fits) c.if-most-backups.false)

pub returns : goal.returns
returns c =
    let e : c.loop-a.a ≡ c.args.actions = omega arith in
    rw (← most (goal.at.returns c).After-scaled-most) (sym (rw e at c.loop-a.invariant))
