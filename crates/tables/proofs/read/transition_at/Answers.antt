use Rattle.tables.proofs.Prelude.{cell-stored}
use Rattle.tables.proofs.read.transition_at.Goals as goal

pub bounds-cells-at : goal.bounds-cells-at
bounds-cells-at c =
    let (s, t) = c.requires.s_lt_n in
    rw (c.cell-at.ensures.0, c.row.ensures.0) (cell-stored c.args.n c.args.n c.args.a.0 c.args.s.0 c.args.to.0 s t c.requires.a_in_bounds)
