use Rattle.integers.proofs.Kit.{ℕ, ◌<◌, ◌*◌, ◌≡◌, ◌∙◌, sym, arith, mul-le-mul}
use Rattle.integers.proofs.Sums.{total-none, total-step, total-bound}
use Rattle.tables.specs.Limits.{max_weight, one}
use Rattle.sparse.proofs.Cells.{down-by-states}
use Rattle.sparse.proofs.down.Goals as goal

pub loop-i-init : goal.loop-i-init
loop-i-init c = sym (total-none _)

pub add_moved-sum-requires : goal.add_moved-sum-requires
add_moved-sum-requires c =
    let cells = c.requires.column_stored in
    let light : (k : ℕ) → k < c.loop-i.i → _ = λ k h.
    mul-le-mul (c.requires.below.below _ (cells.state_in k (omega arith))) (cells.chance_limit k (omega arith)) in
    let there : c.state_of.result < c.args.n = omega (arith, cells.state_in c.loop-i.i c.loop-i-test.true) in (
      rw c.loop-i.invariant (omega (arith, total-bound c.loop-i.i (max_weight * one) _ light)),
      (c.requires.below.below c.state_of.result there, rw c.chance_of.ensures (cells.chance_limit c.loop-i.i c.loop-i-test.true)),
    )

pub loop-i-preserved : goal.loop-i-preserved
loop-i-preserved c = c.add_moved-sum.ensures ∙ rw (c.chance_of.ensures, c.state_of.ensures) (total-step _ _ c.loop-i.invariant)

pub returns : goal.returns
returns c =
    let a = c.args in
    let e : c.loop-i.i ≡ a.count = omega arith in
    (rw e at c.loop-i.invariant) ∙ down-by-states a.list.now a.first a.n a.p.now a.count c.requires.column_stored.state_in
