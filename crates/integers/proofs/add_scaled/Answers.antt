use Rattle.integers.proofs.Terms.{sum_of, sum_fits}
use Rattle.integers.proofs.Kit.{to_z-of_z}
use Rattle.integers.proofs.add_scaled.Goals as goal

pub returns : goal.returns
returns c =
    let r = c.requires in
    rw (sum_of c.args.k c.args.a r.k_bound c.ranges.a c.args.sum c.ranges.sum r.a_bound)
    (to_z-of_z (sum_fits c.args.k c.args.a r.k_bound c.ranges.a c.args.sum c.ranges.sum r.a_bound))
