-- Whether a value is at least every action's backup, from what each allows: the answer is the level's. Assumes nothing.
use Rattle.integers.proofs.Kit.{◌≡◌, ◌∙◌, true, false, Bool, List, ℕ, get_or, ℤ, pos, lt_z, le_z}
use Rattle.integers.specs.Whole.{◌·◌}
use Rattle.integers.specs.Search.{every}
use Rattle.integers.proofs.Parts.{le-by, lt_by, lt_z-true, lt_z-false, le_z-is, le_z-not}
use Rattle.integers.proofs.Searches.{every-cong}
use Rattle.tables.specs.declared.Counts.{Counts}
use Rattle.tables.specs.Limits.{K}
use Rattle.tables.specs.Storage.{model_in}
use Rattle.plans.specs.Level.{Level}
use Rattle.levels.specs.Judged.{covers_backups}
use Rattle.backups.specs.Steps.{CeilingOf, Allowed}

-- ---- one test, of numbers as the code has them, by what they are
module _ {a b a' b' : ℤ} (left : a ≡ a') (right : b ≡ b') where
  pub not-below : lt_z a b ≡ false → le_z b' a' ≡ true
  not-below t = rw (← left, ← right) (le_z-is b a (le-by b a (lt_z-false a b t)))

  pub is_below : lt_z a b ≡ true → le_z b' a' ≡ false
  is_below t = rw (← left, ← right) (le_z-not b a (lt_by a b (lt_z-true a b t)))

-- ---- an answer, from what each action allows
pub covers-said : {c : Counts} {T O : List ℕ} {R : List ℤ} {roof : List ℕ → ℤ} {p : ℕ → ℕ} {backups : List ℤ} (h : Allowed c T O R roof p backups) (L : Level)
    → CeilingOf c.states roof L → {w w' : ℤ} {r : Bool} → w ≡ w' → r ≡ every c.actions (λ a. le_z (get_or backups a (pos 0)) (K · w))
    → r ≡ covers_backups (model_in c T O R) L p w'
covers-said {c} h L is e f = f ∙ rw e (every-cong c.actions _ _ (λ a la. rw (h.backup L is a la)))
