use Rattle.integers.proofs.Kit.{◌≡◌, drop}
use mathlib.Core.List.{◌++◌}
use Rattle.integers.specs.Cells.{laid}
use Rattle.pricing.specs.Steps.{raised_in}
use Rattle.pricing.proofs.raise_cells.Given as goal

abbrev pub invariant-loop-cell : goal.invariant-loop-cell
invariant-loop-cell l = l.cell-items ++ drop l.count l.fn.cells ≡ laid l.cell-index (raised_in l.limit l.k l.fn.cells) l.fn.cells
