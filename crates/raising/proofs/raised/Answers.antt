use Rattle.integers.proofs.Kit.{arith}
use Rattle.tables.specs.Limits.{max_vectors}
use Rattle.runs.proofs.Judged.{accepted}
use Rattle.raising.proofs.raised.Goals as goal

pub overflow_add-c : goal.overflow_add-c
overflow_add-c c = omega (arith, (accepted max_vectors _ _ _ c.requires).standing.valid-tables.few_states)
