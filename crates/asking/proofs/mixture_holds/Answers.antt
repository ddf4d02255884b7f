use Rattle.std.proofs.Common.{◌≡◌, ◌∙◌, ◌<◌, sym, arith, length}
use lib.Seq.{length-take-le, get_or-take}
use Rattle.integers.proofs.Kit.{le-leb, lt-leb, leb}
use Rattle.tables.specs.Storage.{weight_in}
use Rattle.tables.specs.Limits.{max_weight}
use Rattle.integers.proofs.Sums.{total-none, total-step}
use Rattle.integers.proofs.Searches.{every-none, every_more, every-not}
use Rattle.asking.proofs.mixture_holds.Goals as goal
use Rattle.asking.proofs.mixture_holds.Goals.{After-from-w}

-- a turn's state, and its weight
below : (c : After-from-w) → c.loop-cell.cell-index < c.args.n
below c = omega (arith, length-take-le c.args.n c.args.mixture.now c.if-mixture-n.false)

weighed : (c : After-from-w) → c.from-w.result ≡ weight_in c.args.mixture.now c.loop-cell.cell-index
weighed c = c.from-w.ensures ∙ get_or-take c.args.n c.args.mixture.now c.loop-cell.cell-index 0 (below c)

pub loop-cell-init : goal.loop-cell-init
loop-cell-init c = record { low = every-none _; so_far = sym (total-none _); small = omega arith }

pub returns-then-w-gt-WEIGHT : goal.returns-then-w-gt-WEIGHT
returns-then-w-gt-WEIGHT c =
    let a = c.args in
    let here = (goal.at.returns-then-w-gt-WEIGHT c).After-from-w in
    rw (
      le-leb a.n (length a.mixture.now) c.if-mixture-n.false,
      every-not a.n (λ x. leb (weight_in a.mixture.now x) max_weight) c.loop-cell.cell-index (below here)
          (lt-leb _ max_weight (rw (weighed here) at c.if-w-gt-WEIGHT.true)),
    )

pub loop-cell-preserved : goal.loop-cell-preserved
loop-cell-preserved c =
    let so_far = c.loop-cell.invariant in
    let here = weighed (goal.at.loop-cell-preserved c).After-from-w in record {
      low = every_more _ _ so_far.low (le-leb _ max_weight (rw here at c.if-w-gt-WEIGHT.false));
      so_far = rw here (total-step _ _ so_far.so_far);
      small = omega arith;
    }

pub returns : goal.returns
returns c =
    let e : c.loop-cell.cell-index ≡ c.args.n = omega (arith, length-take-le c.args.n c.args.mixture.now c.if-mixture-n.false) in
    let so_far = c.loop-cell.invariant in
    rw (le-leb c.args.n (length c.args.mixture.now) c.if-mixture-n.false, rw e at so_far.low, ← e, ← so_far.so_far)
