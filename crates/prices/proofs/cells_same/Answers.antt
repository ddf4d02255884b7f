use Rattle.integers.proofs.Kit.{◌≡◌, ◌∙◌, refl, sym, ap, true, false, Bool, List, ℕ, ◌≤◌, ◌<◌, length, get_or, take, eqb, eqb-true, eq-eqb, arith}
use lib.Pointwise.{pointwise, bytes_decides}
use lib.Seq.{length-take-le, get_or-take, ext_get_or}
use Rattle.integers.specs.Search.{every}
use Rattle.integers.proofs.Searches.{every-at, at_every}
use Rattle.prices.proofs.cells_same.Goals as goal

-- two tests that follow from one another
both : (p q : Bool) → (p ≡ true → q ≡ true) → (q ≡ true → p ≡ true) → p ≡ q
both true q h k = sym (h refl)
both false true h k = k refl
both false false h k = refl

-- the first cells are the same where each is
first-same : (n : ℕ) (xs ys : List ℕ) → n ≤ length xs → n ≤ length ys
    → pointwise eqb (take n xs) (take n ys) ≡ every n (λ i. eqb (get_or xs i 0) (get_or ys i 0))
first-same n xs ys long long' = both _ _
    (λ e. let same = (bytes_decides (take n xs) (take n ys)).0 e in
    at_every n _ (λ i l. eq-eqb _ _ (sym (get_or-take n xs i 0 l) ∙ ap (λ (r : List ℕ). get_or r i 0) same ∙ get_or-take n ys i 0 l)))
    (λ e. (bytes_decides (take n xs) (take n ys)).1 (ext_get_or 0 (take n xs) (take n ys) (length-take-le n xs long ∙ sym (length-take-le n ys long'))
    (λ i b. let l : i < n = omega (arith, length-take-le n xs long) in
    get_or-take n xs i 0 l ∙ eqb-true _ _ (every-at n _ e i l) ∙ sym (get_or-take n ys i 0 l))))

pub returns : goal.returns
returns c = c.eq.ensures ∙ first-same c.args.count c.args.new.now c.args.cells.now c.requires.1 c.requires.0
