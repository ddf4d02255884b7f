use Rattle.integers.proofs.Kit.{◌+◌, ◌*◌, ◌≤◌, ◌<◌, sym, ◌∙◌, arith, List, ℤ, pos, length, ap, paste}
use Rattle.integers.specs.Cells.{listed}
use Rattle.integers.proofs.Words.{answer}
use Rattle.integers.proofs.Lists.{length-listed, get_or-listed, laid_rows-none, laid_rows-more, pasting-start, pasting-more, pasting-end}
use Rattle.tables.proofs.Fitting.{rows-stored}
use Rattle.masks.specs.Masks.{masked_in}
use Rattle.laying.proofs.lay_entries.Goals as goal

pub loop-v-init : goal.loop-v-init
loop-v-init c = sym (laid_rows-none _ _ _)

pub loop-s-init : goal.loop-s-init
loop-s-init c = pasting-start _ _ _

pub loop-s-preserved : goal.loop-s-preserved
loop-s-preserved c =
    let a = c.args in
    let v = c.loop-v.v in
    let s = c.loop-s.s in
    let f = masked_in a.n a.newmasks.now a.newentries.now v in
    let value = answer c.entry_at.type_inv c.entry_at.ensures ∙ sym (get_or-listed a.n f s (pos 0) c.loop-s-test.true) in
    let row : (v + 1) * a.n ≤ length a.entries.now = rows-stored a.n v a.vectors c.loop-v-test.true c.requires.n_in_bounds.0 in
    let here : v * a.n + s < length c.loop-v.entries = omega arith in
    rw c.row-at.ensures.0
    (pasting-more (v * a.n) s (listed a.n f) _ _ (pos 0) here (rw (length-listed a.n f) c.loop-s-test.true) value c.loop-s.invariant)

pub loop-v-preserved : goal.loop-v-preserved
loop-v-preserved c =
    let a = c.args in
    let v = c.loop-v.v in
    let f = masked_in a.n a.newmasks.now a.newentries.now in
    let row = listed a.n (f v) in
    let stored : (v + 1) * a.n ≤ length a.entries.now = rows-stored a.n v a.vectors c.loop-v-test.true c.requires.n_in_bounds.0 in
    pasting-end a.n c.loop-s.invariant (omega arith) ∙ ap (λ (xs : List ℤ). paste xs (v * a.n) row a.n) c.loop-v.invariant
    ∙ laid_rows-more v a.n f a.entries.now row (pos 0) stored (omega (arith, length-listed a.n (f v)))
    (λ s b. get_or-listed a.n (f v) s (pos 0) b)
