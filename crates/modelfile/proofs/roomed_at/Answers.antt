use Rattle.integers.proofs.Kit.{◌∙◌, sym}
use Rattle.modelfile.specs.ModelFile.{roomed_by}
use Rattle.modelfile.proofs.roomed_at.Goals as goal

pub returns-clause-start_after : goal.returns-clause-start_after
unfolding roomed_by
returns-clause-start_after c d e = rw (sym c.has_room.ensures ∙ c.if-not-has_room.false) (c.body_at.ensures.start_after d e)
