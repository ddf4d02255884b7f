use Rattle.std.proofs.Common.{◌≡◌, ◌≤◌, ◌*◌}
use Rattle.integers.proofs.Kit.{true, leb}
use Rattle.tables.specs.Storage.{weight_in}
use Rattle.integers.specs.Whole.{total_to}
use Rattle.tables.specs.Limits.{max_weight}
use Rattle.integers.specs.Search.{every}
use Rattle.asking.proofs.mixture_holds.Given as goal

abbrev pub invariant-loop-cell : goal.invariant-loop-cell
invariant-loop-cell l = record {
  low : every l.cell-index (λ x. leb (weight_in l.mixture x) max_weight) ≡ true;
  so_far : l.total ≡ total_to l.cell-index (weight_in l.mixture);
  small : l.total ≤ l.cell-index * max_weight;
}
