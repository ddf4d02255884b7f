use Rattle.std.proofs.Common.{◌≡◌}
use Rattle.integers.specs.Cells.{laid}
use Rattle.masks.specs.Masks.{mask_of, covered_in}
use Rattle.laying.proofs.lay_masks.Given as goal

abbrev pub invariant-loop-v : goal.invariant-loop-v
invariant-loop-v l = l.masks ≡ laid l.v (λ v. mask_of l.n (covered_in l.new v)) l.initial.masks
