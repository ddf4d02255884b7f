use Rattle.std.proofs.Common.{ℕ, ◌+◌, ◌*◌, ◌≡◌, sym, ap, ◌∙◌, arith, rules, Bool, List, get_or, ℤ, pos}
use Rattle.integers.proofs.Words.{back}
use Rattle.integers.specs.Whole.{total_to}
use Rattle.refusals.proofs.Refusals.{first-none, first_more, first-here}
use Rattle.levels.proofs.Laws.{passed, failed}
use Rattle.levels.specs.Storage.{point_in}
use Rattle.levels.specs.Judged.{value_holds, values_within}
use Rattle.ranges.proofs.values_within.Goals as goal

-- the test of point i, by what the calls answer
said : (n i at total limit : ℕ) (value : ℤ) (cells : List ℕ) (b : Bool) → b ≡ value_holds total limit value
    → total ≡ total_to n (λ s. get_or cells (at + s) 0) → at ≡ i * n → value_holds (total_to n (point_in n cells i)) limit value ≡ b
said n i at total limit value cells b e f g =
    sym (e ∙ ap (λ (t : ℕ). value_holds t limit value) (f ∙ ap (λ (z : ℕ). total_to n (λ s. get_or cells (z + s) 0)) g))

pub loop-i-init : goal.loop-i-init
loop-i-init c = first-none _

pub returns-then-not-value_holds : goal.returns-then-not-value_holds
unfolding values_within
returns-then-not-value_holds c =
    let value = get_or c.args.values.now c.loop-i.i (pos 0) in
    let t = said c.args.n c.loop-i.i _ _ c.args.limit value c.args.weights.now _ (c.value_holds.ensures ∙ rw (back value (search rules)))
    c.weights_total-total.ensures c.start.ensures in
    sym (first-here _ _ c.loop-i.i (omega arith) c.loop-i.invariant (failed _ _ (t ∙ c.if-not-value_holds.true)))

pub loop-i-preserved : goal.loop-i-preserved
loop-i-preserved c =
    let value = get_or c.args.values.now c.loop-i.i (pos 0) in
    let t = said c.args.n c.loop-i.i _ _ c.args.limit value c.args.weights.now _ (c.value_holds.ensures ∙ rw (back value (search rules)))
    c.weights_total-total.ensures c.start.ensures in
    first_more _ _ c.loop-i.invariant (passed _ _ (t ∙ c.if-not-value_holds.false))

pub returns : goal.returns
unfolding values_within
returns c = let e : c.loop-i.i ≡ c.args.points = omega arith in sym (rw e at c.loop-i.invariant)
