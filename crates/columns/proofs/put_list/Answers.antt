use Rattle.integers.proofs.Kit.{ℕ, ◌≤◌, ◌+◌, ◌*◌, ◌≡◌, ◌∙◌, sym, ap, arith, length, get_or, List, paste}
use Rattle.integers.specs.Cells.{laid}
use Rattle.integers.proofs.Lists.{laid-cong, laid-paste}
use Rattle.tables.specs.Storage.{transition_in}
use Rattle.columns.specs.Columns.{cells_before, begins, list_of}
use Rattle.columns.proofs.Columns.{list_length, begins-at, cells-from}
use Rattle.columns.proofs.put_list.Goals as goal

-- the cells behind the words that say where the columns begin: the list
joined : (n m : ℕ) (T : ℕ → ℕ → ℕ → ℕ) (xs : List ℕ) {ys zs : List ℕ} → length (list_of n m T) ≤ length xs → ys ≡ laid (m * n + 1) (begins n m T) xs
    → (let all = cells_before n T (m * n) in zs ≡ paste ys (m * n + 1) all (length all))
    → (let L = list_of n m T in zs ≡ laid (length L) (λ i. get_or L i 0) xs)
joined n m T xs room starts cells =
    let all = cells_before n T (m * n) in
    let word : ℕ → ℕ = λ i. get_or (list_of n m T) i 0 in
    cells
    ∙ ap (λ (ys : List ℕ). paste ys (m * n + 1) all (length all))
    (starts ∙ laid-cong (m * n + 1) (begins n m T) word xs (λ c l. sym (begins-at n T m c (omega arith))))
    ∙ laid-paste (m * n + 1) (length all) word xs all 0 (omega arith) (omega (arith, room, list_length n T m)) (λ i l. sym (cells-from n T m i))
    ∙ ap (λ (k : ℕ). laid k word xs) (sym (list_length n T m))

pub put_begins-requires-clause-n_in_bounds : goal.put_begins-requires-clause-n_in_bounds
put_begins-requires-clause-n_in_bounds c =
    let a = c.args in
    omega (arith, c.requires.cells_in_bounds, list_length a.n (transition_in a.n a.cells.now) a.m)

pub returns : goal.returns
returns c =
    let a = c.args in
    joined a.n a.m (transition_in a.n a.cells.now) a.list.now c.requires.cells_in_bounds c.put_begins.ensures c.put_cells.ensures
