use Rattle.integers.proofs.Kit.{◌∙◌, arith, pos}
use Rattle.integers.proofs.Lists.{padded-cong}
use Rattle.tables.specs.Limits.{max_states}
use Rattle.engines.proofs.Same.{backup-same}
use Rattle.engines.proofs.backups.Goals as goal

pub returns : goal.returns
returns c =
    let a = c.args in
    let says = c.requires.engine_fits.listed (omega arith) in
    c.backups-2.ensures ∙ padded-cong (pos 0) max_states a.n _ _ (backup-same says a.g a.reward.now a.f.now)
