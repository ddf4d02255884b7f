use Rattle.validity.proofs.Prelude.{◌≡◌, sym, arith, every-none, every_more, every-not}
use Rattle.integers.proofs.Kit.{to_z-of_z}
use Rattle.validity.proofs.rewards_within.Goals as goal

pub loop-a-init : goal.loop-a-init
loop-a-init c = every-none _

pub loop-s-init : goal.loop-s-init
loop-s-init c = every-none _

pub returns-then-not-within : goal.returns-then-not-within
returns-then-not-within c =
    sym (every-not _ _ c.loop-a.a (omega arith) (every-not _ _ c.loop-s.s (omega arith) (grind (arith, to_z-of_z))))

pub loop-s-preserved : goal.loop-s-preserved
loop-s-preserved c = every_more _ _ c.loop-s.invariant (grind (arith, to_z-of_z))

pub loop-a-preserved : goal.loop-a-preserved
loop-a-preserved c =
    let e : c.loop-s.s ≡ c.args.n = omega arith in
    every_more _ _ c.loop-a.invariant (rw e at c.loop-s.invariant)
