use Rattle.integers.proofs.Kit.{◌∙◌, ap, arith, ℕ, ◌&&◌, ltb}
use Rattle.integers.proofs.Searches.{some-cong}
use Rattle.masks.specs.Masks.{covered}
use Rattle.reaches.proofs.reached_by.Goals as goal

pub returns : goal.returns
returns c =
    let a = c.args in
    -- the list that is there says T
    let says = c.requires.listed (omega arith) in
    c.reached-2.ensures ∙ some-cong a.n _ _
    (λ s l. ap (λ (k : ℕ). covered a.mask s && ltb 0 k) (says.turned s l a.to.0 c.requires.n_le_max_states.1.1))
