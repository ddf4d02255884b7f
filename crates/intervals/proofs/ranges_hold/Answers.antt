use Rattle.integers.proofs.Kit.{sym, arith, le-leb, lt-leb, leb}
use Rattle.integers.proofs.Searches.{every-none, every_more, every-not}
use Rattle.tables.specs.Storage.{weight_in}
use Rattle.intervals.proofs.ranges_hold.Goals as goal

pub loop-s-init : goal.loop-s-init
loop-s-init c = every-none _

pub returns-then-weight_at : goal.returns-then-weight_at
returns-then-weight_at c =
    let a = c.args in
    sym (every-not a.n (λ s. leb (weight_in a.lows.now s) (weight_in a.highs.now s)) c.loop-s.s (omega arith)
    (lt-leb _ _ (rw (c.weight_at.ensures, c.weight_at-in-loop-s.ensures) at c.if-weight_at.true)))

pub loop-s-preserved : goal.loop-s-preserved
loop-s-preserved c =
    every_more _ _ c.loop-s.invariant (le-leb _ _ (rw (c.weight_at.ensures, c.weight_at-in-loop-s.ensures) at c.if-weight_at.false))
