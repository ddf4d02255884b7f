use Rattle.words.proofs.Prelude.{◌≡◌, sym, ◌∙◌, length, arith}
use mathlib.Core.Path.{subst}
use Rattle.words.specs.Steps.{Run}
use Rattle.words.proofs.Laws.{role_in, no_end, end-run, run_more, run_ends}
use Rattle.words.proofs.word_end.Goals as goal

pub returns-then-is_end : goal.returns-then-is_end
returns-then-is_end c =
    let l = c.loop-at in
    l.invariant.1 l.at (run_ends c.args.s.now l.at (omega arith) (sym c.is_end.ensures ∙ c.if-is_end.true))

pub loop-at-preserved : goal.loop-at-preserved
loop-at-preserved c =
    let l = c.loop-at in
    let e = no_end (role_in c.args.s.now l.at) (sym c.is_end.ensures ∙ c.if-is_end.false) in
    (omega arith, λ r w. l.invariant.1 r (run_more c.args.s.now l.at (omega arith) e w))

pub returns : goal.returns
returns c =
    let l = c.loop-at in
    let e : l.at ≡ length c.args.s.now = omega arith in
    subst (Run c.args.s.now c.args.from) e (l.invariant.1 l.at (end-run c.args.s.now l.at e))
