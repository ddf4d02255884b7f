use Rattle.integers.proofs.Kit.{◌∙◌, arith}
use Rattle.integers.proofs.Lists.{padded-cong}
use Rattle.tables.specs.Limits.{max_states}
use Rattle.engines.proofs.Same.{moved_same}
use Rattle.engines.proofs.moved.Goals as goal

pub returns : goal.returns
returns c =
    let says = c.requires.engine_fits.listed (omega arith) in
    c.moved-2.ensures ∙ padded-cong 0 max_states c.args.n _ _ (moved_same says c.args.p.now)
