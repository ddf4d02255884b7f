use Rattle.std.proofs.Common.{◌≡◌, ◌*◌}
use Rattle.integers.specs.Cells.{listed, laid_rows}
use Rattle.integers.proofs.Lists.{Pasting}
use Rattle.masks.specs.Masks.{masked_in}
use Rattle.laying.proofs.lay_entries.Given as goal

-- the row of vector v is pasted so far
abbrev pub invariant-loop-s : goal.invariant-loop-s
invariant-loop-s l = Pasting (l.v * l.n) l.s (listed l.n (masked_in l.n l.newmasks l.newentries l.v)) l.initial.entries l.entries

abbrev pub invariant-loop-v : goal.invariant-loop-v
invariant-loop-v l = l.entries ≡ laid_rows l.v l.n (masked_in l.n l.newmasks l.newentries) l.initial.entries
