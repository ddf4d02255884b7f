use Rattle.integers.proofs.Kit.{pos}
use lib.Seq.{length-take-le}
use Rattle.cells.proofs.Rows.{laid-same}
use Rattle.cells.proofs.clear.Goals as goal

pub returns : goal.returns
returns c =
    let a = c.args in
    rw (c.fill.ensures.after (λ y e. e), length-take-le a.w a.cells.now c.requires) (laid-same (pos 0) a.w a.cells.now)
