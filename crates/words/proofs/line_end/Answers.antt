use Rattle.words.proofs.Prelude.{◌≡◌, refl, sym, ◌∙◌, arith, length, between, at-end}
use Rattle.words.specs.Words.{comment}
use Rattle.words.proofs.Laws.{comment-on, comment-ends}
use Rattle.words.proofs.line_end.Goals as goal

pub returns-then-s-at-eq10 : goal.returns-then-s-at-eq10
returns-then-s-at-eq10 c =
    let l = c.loop-at in
    (omega arith, (omega arith, l.invariant.1.1 ∙ comment-ends c.args.s.now l.at (omega arith) c.if-s-at-eq10.true))

pub loop-at-preserved : goal.loop-at-preserved
loop-at-preserved c =
    let l = c.loop-at in
    (omega arith, (omega arith, l.invariant.1.1 ∙ comment-on c.args.s.now l.at (omega arith) c.if-s-at-eq10.false))

pub returns : goal.returns
returns c =
    let s = c.args.s.now in
    let l = c.loop-at in
    let e : l.at ≡ length s = omega arith in
    (omega arith, (omega arith, l.invariant.1.1 ∙ at-end comment s l.at e ∙ sym (at-end between s (length s) refl)))
