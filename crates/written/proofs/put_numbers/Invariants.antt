use Rattle.written.proofs.Prelude.{Wrote, numbers}
use Rattle.written.proofs.put_numbers.Given as goal

abbrev pub invariant-loop-cell : goal.invariant-loop-cell
invariant-loop-cell l = Wrote l.at (numbers l.places l.cells l.from l.cell-index) l.initial.out l.next l.out
