use Rattle.vectors.proofs.Prelude.{◌∙◌, ap, pos, max_states, K}
use Rattle.integers.proofs.Kit.{ℤ}
use Rattle.integers.specs.Whole.{floor_div}
use Rattle.integers.proofs.Lists.{padded-at, padded-cong}
use Rattle.vectors.proofs.rounded.Goals as goal

pub returns : goal.returns
returns c =
    c.floored.ensures
    ∙ padded-cong (pos 0) max_states _ _ _
    (λ s l. ap (λ (z : ℤ). floor_div z K) (rw c.backups-b.ensures (padded-at (pos 0) max_states _ _ s (pos 0) l)))
