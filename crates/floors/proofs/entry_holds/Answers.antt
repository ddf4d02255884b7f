use Rattle.integers.proofs.Kit.{◌≡◌, ◌∙◌, w64, to_z, of_z, to_z-of_z}
use Rattle.integers.specs.Whole.{◌·◌}
use Rattle.integers.proofs.Words.{answer}
unfoldable use Rattle.tables.specs.Limits.{K}
use Rattle.floors.proofs.entry_holds.Goals as goal

pub returns : goal.returns
unfolding K
returns c =
    let times : to_z w64 (of_z w64 c.scaled.result) ≡ K · c.args.entry = answer c.scaled.type_inv (c.scaled.ensures ∙ rw (to_z-of_z c.ranges.entry)) in
    rw (times, to_z-of_z c.ranges.backup)
