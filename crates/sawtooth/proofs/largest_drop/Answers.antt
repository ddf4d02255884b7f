use Rattle.sawtooth.proofs.Prelude.{sym}
use Rattle.integers.proofs.Sums.{largest-none}
use Rattle.sawtooth.proofs.Laws.{drop-beaten, drop-said, largest-kept, largest-new}
use Rattle.sawtooth.proofs.largest_drop.Goals as goal
use Rattle.sawtooth.proofs.largest_drop.Goals.{then-reaches+then-best-d, then-reaches+else-best-d, else-reaches}

pub loop-i-init : goal.loop-i-init
loop-i-init c = sym (largest-none _)

pub loop-i-preserved : goal.loop-i-preserved
loop-i-preserved c =
    let a = c.args in
    let i = c.loop-i.i in
    let so_far = c.loop-i.invariant in
    let at = c.start-at.ensures in
    elim c.if-reaches.branch [
      | then-reaches+then-best-d w ↦
          largest-new _ _ so_far w.best-is (drop-said a.n a.weights.now a.gains.now a.q.now i at w.drop_of-d.ensures) w.if-best-d.true
      | then-reaches+else-best-d w ↦
          largest-kept _ _ so_far w.best-is (rw (drop-said a.n a.weights.now a.gains.now a.q.now i at w.drop_of-d.ensures) at w.if-best-d.false)
      | else-reaches w ↦
          largest-kept _ _ so_far w.best-is
          (drop-beaten a.n a.weights.now a.gains.now a.q.now i at c.least_above.ensures.0 c.reaches.ensures w.if-reaches.false)
    ]
