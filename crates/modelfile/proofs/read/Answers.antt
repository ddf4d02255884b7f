use Rattle.integers.proofs.Kit.{le-leb, lt-leb}
use Rattle.grammar.proofs.Laws.{handed}
use Rattle.modelfile.specs.ModelFile.{max_bytes, model_file_by}
use Rattle.modelfile.proofs.read.Goals as goal

pub returns-then-file-gt-BYTES-clause-value : goal.returns-then-file-gt-BYTES-clause-value
unfolding model_file_by
returns-then-file-gt-BYTES-clause-value c = rw (lt-leb _ max_bytes c.if-file-gt-BYTES.true)

pub returns-in_err-head-clause-value : goal.returns-in_err-head-clause-value
unfolding model_file_by
returns-in_err-head-clause-value c =
    rw (handed _ c.from_residual.ensures, le-leb _ max_bytes c.if-file-gt-BYTES.false, ← c.in_err-head.ensures.is)

pub returns-clause-value : goal.returns-clause-value
unfolding model_file_by
returns-clause-value c = rw (le-leb _ max_bytes c.if-file-gt-BYTES.false, ← c.in_ok-head.ensures.is) c.roomed_at.ensures.value

pub returns-clause-start_after : goal.returns-clause-start_after
unfolding model_file_by
returns-clause-start_after c d e =
    rw (le-leb _ max_bytes c.if-file-gt-BYTES.false, ← c.in_ok-head.ensures.is) (c.roomed_at.ensures.start_after d e)
