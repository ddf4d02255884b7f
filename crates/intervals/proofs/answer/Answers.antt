use Rattle.integers.proofs.Kit.{ℕ, ◌≡◌, ◌∙◌, ap, sym, true}
use Rattle.masks.specs.Steps.{some_includes}
use Rattle.bounds.specs.Steps.{support_in, widened}
use Rattle.intervals.specs.Intervals.{ranges_hold, highs_hold}
use Rattle.intervals.proofs.Answers.{ranged, totals-given}
use Rattle.intervals.proofs.answer.Goals as goal

pub totals_at-requires-clause-ranged : goal.totals_at-requires-clause-ranged
totals_at-requires-clause-ranged c =
    let a = c.args in
    let holds-24 : ranges_hold a.n a.lows.now a.highs.now ≡ true = sym c.ranges_hold.ensures ∙ c.if-not-ranges_hold.false in
    let holds-17 : highs_hold a.n a.lows.now a.highs.now ≡ true = sym c.highs_hold.ensures ∙ c.if-not-highs_hold.false in
    ranged a.n a.lows.now a.highs.now holds-24 holds-17 c.requires.few_states c.point_weights-low.ensures c.point_weights-high.ensures

pub returns : goal.returns
returns c =
    let a = c.args in
    let holds-24 : ranges_hold a.n a.lows.now a.highs.now ≡ true = sym c.ranges_hold.ensures ∙ c.if-not-ranges_hold.false in
    let holds-17 : highs_hold a.n a.lows.now a.highs.now ≡ true = sym c.highs_hold.ensures ∙ c.if-not-highs_hold.false in
    let at-support : c.support-states.result ≡ support_in a.n (widened a.n a.highs.now) =
    rw c.point_weights-high.ensures at c.support-states.ensures in
    let at-22 = c.some_has.ensures ∙ ap (λ (x : ℕ). some_includes a.masks.now a.vectors x) at-support in
    totals-given a.n a.lows.now a.highs.now holds-24 holds-17 a.vectors a.masks.now a.entries.now a.corners.now c.totals_at.ensures
    c.point_weights-low.ensures c.point_weights-high.ensures at-support (sym at-22 ∙ c.if-not-some_has.false)
