use Rattle.tables.proofs.Prelude.{cell-stored}
use Rattle.tables.proofs.read.observation_at.Goals as goal

pub bounds-cells-at : goal.bounds-cells-at
bounds-cells-at c =
    let (t, o) = c.requires.to_lt_n in
    rw (c.cell-at.ensures.0, c.row.ensures.0) (cell-stored c.args.n c.args.k c.args.a.0 c.args.to.0 c.args.o.0 t o c.requires.a_in_bounds)
