use Rattle.integers.proofs.Terms.{product, product-fits}
use Rattle.integers.proofs.Kit.{to_z-of_z}
use Rattle.integers.proofs.scaled.Goals as goal

pub returns : goal.returns
returns c =
    let r = c.requires in
    rw (product c.args.k c.args.a r.k_bound c.ranges.a) (to_z-of_z (product-fits c.args.k c.args.a r.k_bound c.ranges.a r.a_bound))
