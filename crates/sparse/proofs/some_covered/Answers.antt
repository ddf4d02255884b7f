use Rattle.integers.proofs.Kit.{◌≡◌, ◌∙◌, ap, sym, arith}
use Rattle.masks.specs.Masks.{covered}
use Rattle.sparse.proofs.Cells.{covered-here, none-covered}
use Rattle.sparse.proofs.some_covered.Goals as goal

pub returns-then-covers : goal.returns-then-covers
returns-then-covers c =
    let asked = c.covers.ensures ∙ ap (covered c.args.mask) c.state_of-s.ensures in
    sym (covered-here c.args.mask c.requires.column_stored c.loop-i.i c.loop-i-test.true (sym asked ∙ c.if-covers.true))

pub returns : goal.returns
returns c =
    let e : c.loop-i.i ≡ c.args.count = omega arith in
    sym (none-covered c.args.mask c.requires.column_stored (rw e at c.loop-i.invariant))
