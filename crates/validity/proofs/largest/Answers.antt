use Rattle.validity.proofs.Prelude.{◌≡◌, ◌<◌, sym, arith, get_or}
use lib.Seq.{length-take-le, get_or-take}
use Rattle.integers.proofs.Sums.{largest-none, largest-more}
use Rattle.validity.proofs.largest.Goals as goal

pub loop-cell-init : goal.loop-cell-init
loop-cell-init c = sym (largest-none _)

pub loop-cell-preserved : goal.loop-cell-preserved
loop-cell-preserved c =
    let a = c.args in
    let x = c.loop-cell.cell-index in
    let h : x < a.count = omega (arith, length-take-le a.count a.cells.now c.requires) in
    cc (get_or-take a.count a.cells.now x 0 h, largest-more x (λ y. get_or a.cells.now y 0))

pub returns : goal.returns
returns c =
    let e : c.loop-cell.cell-index ≡ c.args.count = omega (arith, length-take-le c.args.count c.args.cells.now c.requires) in
    rw e at c.loop-cell.invariant
