use Rattle.drafts.proofs.Prelude.{◌∙◌}
use Rattle.drafts.proofs.Marks.{stated-one}
use Rattle.integers.proofs.Kit.{◌≡◌, true, ◌&&◌, ℕ, ◌<◌, ltb-true, ltb}
use mathlib.Core.Bool.{and-eq-true_iff}
use Rattle.drafts.proofs.state.Goals as goal

-- none of them is a star
all-below : (a m s n x w : ℕ) → ((ltb a m && ltb s n) && ltb x w) ≡ true → (a < m) × ((s < n) × (x < w))
all-below a m s n x w e =
    let both = (and-eq-true_iff (ltb a m && ltb s n) (ltb x w)).0 e in
    let first = (and-eq-true_iff (ltb a m) (ltb s n)).0 both.0 in
    (ltb-true a m first.0, (ltb-true s n first.1, ltb-true x w both.1))

pub returns-then-a-m : goal.returns-then-a-m
returns-then-a-m c =
    let a = c.args in
    let (block, (row, place)) = all-below a.a a.m a.s a.n a.x a.w c.if-a-m.true in
    c.mark_one.ensures ∙ stated-one a.m a.n a.w a.a a.s a.x a.p a.cells.now block row place
