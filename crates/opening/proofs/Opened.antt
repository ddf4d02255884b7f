-- What is written is what opening is said to leave. Assumes nothing.
use Rattle.integers.proofs.Kit.{◌≡◌, ◌∙◌, ap, sym, true, List, ◌∷◌, ℕ, ◌*◌, arith, drop, ℤ, pos}
use Rattle.std.specs.Prelude.{Err}
use Rattle.integers.specs.Cells.{laid, laid_rows}
use Rattle.integers.proofs.Lists.{laid_none, laid_rows-none}
use Rattle.tables.specs.Tables.{Tables}
use Rattle.refusals.specs.declared.Refusal.{Refusal}
use Rattle.refusals.specs.Verdicts.{Fine}
use Rattle.masks.specs.Masks.{mask_of}
use Rattle.plans.specs.Level.{level0}
use Rattle.levels.specs.Storage.{rows, Lent, state_size, cells, lent, over}
use Rattle.levels.proofs.Over.{same_cells, lent_same}
use Rattle.runs.specs.State.{open_verdict, opened}

-- a row alone
row-alone : {A : Type 0} (z : A) (w : ℕ) (xs : List A) → laid w (λ i. z) xs ≡ laid_rows 1 w (λ r x. z) xs
unfolding laid_rows
row-alone z w xs = let e : w ≡ 1 * w = omega arith in ap (λ (k : ℕ). laid k (λ i. z) xs) e

module _ (m : Tables) (x : Lent) where
  pub opened-refused : {e : Refusal} → Err e ≡ open_verdict m x → x ≡ opened m x
  unfolding opened
  opened-refused h = rw (sym h)

  -- level 0 and its rows over the slices
  pub opened-fine : Fine ≡ open_verdict m x
      → {state actions choices masks : List ℕ} {entries corners f q : List ℤ}
      → state ≡ 0 ∷ 1 ∷ 0 ∷ drop state_size x.state
      → actions ≡ laid 1 (λ v. 0) x.cells.actions
      → choices ≡ laid m.observations (λ o. 0) x.cells.choices
      → masks ≡ laid 1 (λ v. mask_of m.states (λ s. true)) x.cells.masks
      → entries ≡ laid m.states (λ s. pos 0) x.cells.entries
      → corners ≡ laid m.states (λ s. pos 0) x.cells.corners
      → f ≡ laid (m.actions * m.states) (λ i. pos 0) x.rows.informed
      → q ≡ laid (m.actions * m.states) (λ i. pos 0) x.rows.qmdp
      → lent state (cells actions choices masks entries corners x.cells.weights x.cells.values) (rows f q) ≡ opened m x
  unfolding opened over level0 laid_rows
  opened-fine h s a b k c d f q =
      rw (sym h)
      (lent_same s (same_cells a (b ∙ row-alone 0 m.observations x.cells.choices) k (c ∙ row-alone (pos 0) m.states x.cells.entries) d
      (sym (laid_rows-none m.states level0.weight x.cells.weights)) (sym (laid_none _ x.cells.values))) f q)
