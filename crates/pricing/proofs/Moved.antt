-- What the code works out of new prices is what is defined. Assumes nothing.
--
--   change-is               the largest change, cell by cell
--   rows-laid               rows that are moved cell by cell
--   still-here              the cell that is moved next
use Rattle.integers.proofs.Kit.{◌≡◌, ◌∙◌, ap, sym, List, ℕ, ◌≤◌, ◌<◌, ◌+◌, ◌*◌, ◌/◌, ◌%◌, arith, get_or, ℤ, pos, nat_abs, ◌-ℤ◌}
use native.Mathlib.Nat as NatL
use Rattle.integers.specs.Whole.{largest_to}
use Rattle.integers.specs.Cells.{laid, laid_rows}
use Rattle.integers.proofs.Lists.{cell_below, laid-cong, laid-past}
use Rattle.integers.proofs.Sums.{largest-ind, largest-part}
use Rattle.tables.specs.Tables.{Tables}
use Rattle.tables.specs.Storage.{reward_in, model_of}
use Rattle.plans.specs.Prices.{change}
use Rattle.pricing.specs.Steps.{change_at}

-- ---- the largest change
-- Each place is one of a row, and each place of a row is one. Qed.
largest-rows : (r w : ℕ) (f : ℕ → ℕ) → 0 < w → largest_to (r * w) f ≡ largest_to r (λ i. largest_to w (λ x. f (i * w + x)))
largest-rows r w f some = NatL.le_antisymm
    (largest-ind (λ z. z ≤ all) (r * w) f (omega arith) (λ i l. rw (NatL.div-add-mod' i w) at
    (NatL.le_trans (largest-part w (row (i / w)) (i % w) (NatL.mod-lt i some)) (largest-part r (λ j. largest_to w (row j)) (i / w)
    ((NatL.div-lt_iff_lt-mul some).1 l)))))
    (largest-ind (λ z. z ≤ largest_to (r * w) f) r _ (omega arith) (λ i l. largest-ind (λ z. z ≤ largest_to (r * w) f) w _ (omega arith)
    (λ x b. largest-part (r * w) f (i * w + x) (cell_below i r x w l b))))
  where
    row : ℕ → ℕ → ℕ
    row i x = f (i * w + x)

    all : ℕ
    all = largest_to r (λ i. largest_to w (row i))

-- by action and state, it is the models' change
pub change-is : (m m' : Tables) → 0 < m.states → m'.states ≡ m.states
    → largest_to (m.actions * m.states) (change_at m.reward m'.reward) ≡ change (model_of m) (model_of m')
unfolding change
change-is m m' some e =
    largest-rows m.actions m.states (change_at m.reward m'.reward) some
    ∙ ap (λ (n : ℕ). largest_to m.actions (λ a. largest_to m.states
    (λ s. nat_abs (reward_in n m'.reward s a -ℤ reward_in m.states m.reward s a)))) (sym e)

-- ---- numbers that are moved in place
-- rows laid cell by cell
pub rows-laid : {A : Type 0} (r w : ℕ) (f : ℕ → A) (xs : List A) → laid_rows r w (λ i x. f (i * w + x)) xs ≡ laid (r * w) f xs
unfolding laid_rows
rows-laid {A} r w f xs = laid-cong (r * w) _ _ xs (λ i l. ap f (NatL.div-add-mod' i w))

-- where the first are moved, the next is as it was
pub still-here : (i : ℕ) (f : ℕ → ℤ) (xs : List ℤ) {cells : List ℤ} → cells ≡ laid i f xs → get_or cells i (pos 0) ≡ get_or xs i (pos 0)
still-here i f xs e = ap (λ (l : List ℤ). get_or l i (pos 0)) e ∙ laid-past i f xs i (pos 0) (NatL.le_refl i)
