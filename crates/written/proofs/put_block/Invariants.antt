use Rattle.written.proofs.Prelude.{Wrote, parts_to, row_text, cell_in}
use Rattle.written.proofs.put_block.Given as goal

abbrev pub invariant-loop-s : goal.invariant-loop-s
invariant-loop-s l = Wrote l.at (parts_to l.s (λ s. row_text l.key l.a s l.w (cell_in l.n l.w l.cells l.a s))) l.initial.out l.next l.out
