use Rattle.integers.proofs.Prelude.{to_z-of_z, sfits_le, quotient, remainder}
use Rattle.integers.proofs.Quotients.{ceil-more, ceil-same, ceil-small}
use Rattle.integers.proofs.ceil_div.Goals as goal

pub returns-then-x-d-gt0 : goal.returns-then-x-d-gt0
returns-then-x-d-gt0 c =
    let (p, small) = c.requires in
    let t = rw (remainder c.args.x c.args.k c.ranges.x p small) at c.if-x-d-gt0.true in
    rw (quotient c.args.x c.args.k c.ranges.x p small, ceil-more c.args.k p c.args.x t)
    (to_z-of_z (sfits_le (ceil-small c.args.k p c.args.x) c.ranges.x))

pub returns : goal.returns
returns c =
    let (p, small) = c.requires in
    rw (quotient c.args.x c.args.k c.ranges.x p small)
    (ceil-same c.args.k p c.args.x (rw (remainder c.args.x c.args.k c.ranges.x p small) at c.if-x-d-gt0.false))
