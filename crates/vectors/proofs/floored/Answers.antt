use lib.Seq.{length-take-le, get_or-take}
use Rattle.vectors.proofs.Prelude.{◌≡◌, ◌∙◌, ◌<◌, sym, ap, arith, rules, pos, get_or, w64, to_z-of_z, padded-none, padded-turn, answer, K}
use Rattle.integers.proofs.Kit.{ℤ, SFits, take}
use Rattle.integers.specs.Whole.{floor_div}
use Rattle.vectors.proofs.floored.Goals as goal

pub loop-s-init : goal.loop-s-init
loop-s-init c = sym (padded-none _ _ _)

pub loop-s-preserved : goal.loop-s-preserved
unfolding K
loop-s-preserved c =
    let a = c.args in
    let s = c.loop-s.s in
    let h : s < a.n = omega (arith, length-take-le a.n a.b.now c.requires.1) in
    let e = get_or-take a.n a.b.now s (pos 0) h in
    let fits : SFits w64 (get_or (take a.n a.b.now) s (pos 0)) = rw e (search rules) in
    padded-turn _ _ _ _ c.loop-s.invariant
    (answer c.floor_div.type_inv (c.floor_div.ensures ∙ ap (λ (z : ℤ). floor_div z K) (to_z-of_z fits ∙ e))) (omega arith)

pub returns : goal.returns
returns c =
    let all : c.loop-s.s ≡ c.args.n = omega (arith, length-take-le c.args.n c.args.b.now c.requires.1) in
    rw all at c.loop-s.invariant
