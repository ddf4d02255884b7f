use Rattle.tables.proofs.Fitting.{cell-stored}
use Rattle.drafts.proofs.mark_one.Goals as goal

pub bounds-cells-cell : goal.bounds-cells-cell
bounds-cells-cell c =
    let a = c.args in
    let (row, place) = c.requires.s_lt_n in
    rw (c.cell.ensures.0, c.row.ensures.0) (cell-stored a.n a.w a.a a.s a.x row place c.requires.a_in_bounds)
