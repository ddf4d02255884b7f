use Rattle.builder.proofs.Prelude.{◌-◌, arith, point_in, corner-at, point_at}
use Rattle.builder.proofs.Levels.{seed-corner, seed-point}
use Rattle.builder.proofs.seed_weights.Goals as goal

pub returns-then-i-n : goal.returns-then-i-n
returns-then-i-n c s l =
    let a = c.args in
    rw (seed-corner a.n (point_in a.n a.weights.now) a.v.0 c.if-i-n.true)
    (corner-at c.corner_weights.ensures (omega (arith, c.if-i-n.true, c.requires.n_le_max_states.0)) s)

pub returns : goal.returns
returns c s l =
    let a = c.args in
    rw (seed-point a.n (point_in a.n a.weights.now) a.v.0 c.if-i-n.false)
    (point_at a.n a.weights.now (a.v.0 - a.n) c.point_weights.ensures s l)
