use Rattle.written.proofs.Prelude.{Wrote, parts_to, row_text, cell_in}
use Rattle.written.proofs.put_table.Given as goal

abbrev pub invariant-loop-a : goal.invariant-loop-a
invariant-loop-a l =
    Wrote l.at (parts_to l.a (λ a. parts_to l.n (λ s. row_text l.key a s l.w (cell_in l.n l.w l.cells a s)))) l.initial.out l.next l.out
