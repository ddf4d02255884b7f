use Rattle.integers.proofs.Lists.{Pasting}
use Rattle.cells.proofs.paste.Given as goal

abbrev pub invariant-loop-x : goal.invariant-loop-x
invariant-loop-x g l = Pasting l.at l.x l.row l.initial.cells l.cells
