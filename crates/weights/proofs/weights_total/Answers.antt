use Rattle.std.proofs.Common.{◌≡◌, ◌≤◌, ◌+◌, ◌-◌, ℕ, List, length, get_or, take, drop, length-drop, sym, arith}
use lib.Seq.{length-take-le, get_or-take, get_or-drop}
use Rattle.integers.proofs.Sums.{total-none, total-step}
use Rattle.weights.proofs.weights_total.Goals as goal

part-length : (cells : List ℕ) (at n : ℕ) → at + n ≤ length cells → length (take (at + n - at) (drop at cells)) ≡ n
part-length cells at n h = omega (arith, length-drop at cells, length-take-le (at + n - at) (drop at cells) (omega (arith, length-drop at cells)))

pub loop-cell-init : goal.loop-cell-init
loop-cell-init c = (sym (total-none _), omega arith)

pub loop-cell-preserved : goal.loop-cell-preserved
loop-cell-preserved c =
    let a = c.args in
    let x = c.loop-cell.cell-index in
    let long = part-length a.cells.now a.at a.n c.requires.0 in
    let e : c.from-sum.result ≡ get_or a.cells.now (a.at + x) 0 =
    cc (get_or-take (a.at + a.n - a.at) (drop a.at a.cells.now) x 0 (omega arith), get_or-drop a.at a.cells.now x 0) in
    let more : c.from-sum.result ≤ 4_294_967_295 = omega (arith, c.type_inv.cells (a.at + x)) in
    (rw e (total-step _ _ c.loop-cell.invariant.0), omega arith)

pub returns : goal.returns
returns c =
    let all : c.loop-cell.cell-index ≡ c.args.n = omega (arith, part-length c.args.cells.now c.args.at c.args.n c.requires.0) in
    rw all at c.loop-cell.invariant.0
