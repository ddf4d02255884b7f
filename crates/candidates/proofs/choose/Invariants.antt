use Rattle.integers.proofs.Kit.{◌≡◌}
use Rattle.integers.specs.Cells.{padded}
use Rattle.tables.specs.Limits.{max_observations}
use Rattle.candidates.proofs.Candidates.{picked}
use Rattle.candidates.proofs.choose.Given as goal

abbrev pub invariant-loop-o : goal.invariant-loop-o
invariant-loop-o l =
    l.chosen ≡ padded 0 max_observations l.o (picked l.n l.k l.observation l.u l.masks l.entries l.count l.a.0)
