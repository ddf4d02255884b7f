use Rattle.sawtooth.proofs.Prelude.{sym, arith}
use Rattle.integers.proofs.Kit.{le-leb, lt-leb}
use Rattle.integers.proofs.Searches.{every-none, every_more, every-not}
use Rattle.sawtooth.proofs.reaches.Goals as goal

pub loop-s-init : goal.loop-s-init
loop-s-init c = every-none _

pub returns-then-reach-wanted : goal.returns-then-reach-wanted
returns-then-reach-wanted c =
    let less = rw (c.reach.ensures, c.wanted.ensures, c.from-p.ensures) at c.if-reach-wanted.true in
    sym (every-not _ _ c.loop-s.s (omega arith) (lt-leb _ _ less))

pub loop-s-preserved : goal.loop-s-preserved
loop-s-preserved c =
    let least = rw (c.reach.ensures, c.wanted.ensures, c.from-p.ensures) at c.if-reach-wanted.false in
    every_more _ _ c.loop-s.invariant (le-leb _ _ least)
