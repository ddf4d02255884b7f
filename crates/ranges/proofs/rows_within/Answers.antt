use Rattle.std.proofs.Common.{◌≡◌, ◌+◌, ◌*◌, refl, sym, ◌∙◌, arith, rules, get_or, pos, ◌<◌, ◌^◌}
use Rattle.integers.proofs.Kit.{leb, nat_abs, mag}
use Rattle.integers.proofs.Words.{back}
use Rattle.refusals.proofs.Refusals.{first-none, first_more, first-here}
use Rattle.levels.specs.Judged.{rows_within}
use Rattle.levels.proofs.Laws.{passed, failed}
use Rattle.ranges.proofs.rows_within.Goals as goal

pub rows-init : goal.rows-init
rows-init c = (refl, first-none _)

pub loop-x-init : goal.loop-x-init
loop-x-init c = (c.rows.invariant.0, first-none _)

pub loop-x-preserved : goal.loop-x-preserved
loop-x-preserved c =
    let fits : mag (get_or c.args.cells.now c.row-at.result (pos 0)) < 2 ^ 63 = search rules in
    let said : c.within.result ≡ leb (nat_abs (get_or c.args.cells.now (c.rows.i * c.args.w + c.loop-x.x) (pos 0))) c.args.limit
    = c.within.ensures ∙ rw (back _ fits, c.row-at.ensures.0) in
    (c.loop-x.invariant.0, first_more _ _ c.loop-x.invariant.1 (passed _ _ (sym said ∙ c.if-not-within.false)))

pub rows-preserved : goal.rows-preserved
rows-preserved c =
    let e : c.loop-x.x ≡ c.args.w = omega arith in
    (c.loop-x.invariant.0, first_more _ _ c.rows.invariant.1 (rw e at c.loop-x.invariant.1))

pub returns-after-rows : goal.returns-after-rows
unfolding rows_within
returns-after-rows c =
    let e : c.rows.i ≡ c.args.rows = omega arith in
    c.rows.invariant.0 ∙ sym (rw e at c.rows.invariant.1)

pub returns-then-not-within : goal.returns-then-not-within
unfolding rows_within
returns-then-not-within c =
    let fits : mag (get_or c.args.cells.now c.row-at.result (pos 0)) < 2 ^ 63 = search rules in
    let said : c.within.result ≡ leb (nat_abs (get_or c.args.cells.now (c.rows.i * c.args.w + c.loop-x.x) (pos 0))) c.args.limit
    = c.within.ensures ∙ rw (back _ fits, c.row-at.ensures.0) in
    sym (first-here _ _ c.rows.i (omega arith) c.rows.invariant.1
    (first-here _ _ c.loop-x.x (omega arith) c.loop-x.invariant.1 (failed _ _ (sym said ∙ c.if-not-within.true))))
