use Rattle.std.proofs.Common.{◌≡◌, refl, sym, ◌∙◌, arith}
use Rattle.integers.proofs.Kit.{leb, nat_abs}
use Rattle.integers.proofs.Words.{answer}
use Rattle.refusals.proofs.Refusals.{first-none, first_more, first-here}
use Rattle.masks.specs.Masks.{masked_in}
use Rattle.levels.specs.Judged.{rows_within}
use Rattle.levels.proofs.Laws.{passed, failed}
use Rattle.ranges.proofs.entries_within.Goals as goal

pub vectors-init : goal.vectors-init
vectors-init c = (refl, first-none _)

pub loop-s-init : goal.loop-s-init
loop-s-init c = (c.vectors.invariant.0, first-none _)

pub loop-s-preserved : goal.loop-s-preserved
loop-s-preserved c =
    let said : c.within.result ≡ leb (nat_abs (masked_in c.args.n c.args.masks.now c.args.entries.now c.vectors.v c.loop-s.s)) c.args.limit
    = c.within.ensures ∙ rw (answer c.entry_at-e.type_inv c.entry_at-e.ensures) in
    (c.loop-s.invariant.0, first_more _ _ c.loop-s.invariant.1 (passed _ _ (sym said ∙ c.if-not-within.false)))

pub vectors-preserved : goal.vectors-preserved
vectors-preserved c =
    let e : c.loop-s.s ≡ c.args.n = omega arith in
    (c.loop-s.invariant.0, first_more _ _ c.vectors.invariant.1 (rw e at c.loop-s.invariant.1))

pub returns-after-vectors : goal.returns-after-vectors
unfolding rows_within
returns-after-vectors c =
    let e : c.vectors.v ≡ c.args.vectors = omega arith in
    c.vectors.invariant.0 ∙ sym (rw e at c.vectors.invariant.1)

pub returns-then-not-within : goal.returns-then-not-within
unfolding rows_within
returns-then-not-within c =
    let said : c.within.result ≡ leb (nat_abs (masked_in c.args.n c.args.masks.now c.args.entries.now c.vectors.v c.loop-s.s)) c.args.limit
    = c.within.ensures ∙ rw (answer c.entry_at-e.type_inv c.entry_at-e.ensures) in
    sym (first-here _ _ c.vectors.v (omega arith) c.vectors.invariant.1
    (first-here _ _ c.loop-s.s (omega arith) c.loop-s.invariant.1 (failed _ _ (sym said ∙ c.if-not-within.true))))
