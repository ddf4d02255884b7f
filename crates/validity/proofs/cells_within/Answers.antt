use Rattle.validity.proofs.Prelude.{ℕ, ◌*◌, ◌∙◌, ap, leb, get_or, one}
use Rattle.validity.proofs.Packed.{largest-every, every-cells}
use Rattle.validity.proofs.cells_within.Goals as goal

pub returns : goal.returns
returns c =
    let a = c.args in
    ap (λ (z : ℕ). leb z one) (c.wide.ensures ∙ c.largest.ensures) ∙ largest-every (a.m * a.n * a.w) one
    (λ x. get_or a.cells.now x 0) ∙ every-cells a.m a.n a.w (λ x. leb (get_or a.cells.now x 0) one)
