use Rattle.std.proofs.Common.{ℕ, ◌+◌, ◌*◌, ◌≡◌, sym, ap, ◌∙◌, arith, Bool, List, get_or}
use Rattle.integers.specs.Whole.{total_to}
use Rattle.refusals.proofs.Refusals.{first-none, first_more, first-here}
use Rattle.levels.proofs.Laws.{passed, failed}
use Rattle.levels.specs.Storage.{point_in}
use Rattle.levels.specs.Judged.{total_holds, weights_verdict}
use Rattle.weights.proofs.weights_hold.Goals as goal

-- the test of point i, by what the calls answer
said : (n i at total : ℕ) (cells : List ℕ) (b : Bool) → b ≡ total_holds total → total ≡ total_to n (λ s. get_or cells (at + s) 0) → at ≡ i * n
    → total_holds (total_to n (point_in n cells i)) ≡ b
said n i at total cells b e f g =
    sym (e ∙ ap total_holds (f ∙ ap (λ (z : ℕ). total_to n (λ s. get_or cells (z + s) 0)) g))

pub loop-i-init : goal.loop-i-init
loop-i-init c = first-none _

pub returns-then-not-total_holds : goal.returns-then-not-total_holds
unfolding weights_verdict
returns-then-not-total_holds c =
    let t = said c.args.n c.loop-i.i _ _ c.args.cells.now _ c.total_holds.ensures c.weights_total.ensures c.start.ensures in
    sym (first-here _ _ c.loop-i.i (omega arith) c.loop-i.invariant (failed _ _ (t ∙ c.if-not-total_holds.true)))

pub loop-i-preserved : goal.loop-i-preserved
loop-i-preserved c =
    let t = said c.args.n c.loop-i.i _ _ c.args.cells.now _ c.total_holds.ensures c.weights_total.ensures c.start.ensures in
    first_more _ _ c.loop-i.invariant (passed _ _ (t ∙ c.if-not-total_holds.false))

pub returns : goal.returns
unfolding weights_verdict
returns c = let e : c.loop-i.i ≡ c.args.points = omega arith in sym (rw e at c.loop-i.invariant)
