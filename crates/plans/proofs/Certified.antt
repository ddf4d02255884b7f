-- What is certified of a level after t levels, however it came about.
--
--   Earned          some t-step plan opens with an action and earns a vector's entries on the states that it covers
--   Certified       every vector is earned, and no t-step plan earns more than the corners and points say
--   RowsCertified   no t-step plan earns more than the row of its first action says, and no row is above that of QMDP
use Rattle.integers.proofs.Kit.{◌≡◌, true, Bool, ℕ, ◌<◌, ◌^◌, ℤ, ◌≤ℤ◌}
use Rattle.integers.specs.Whole.{◌·◌}
use Rattle.tables.specs.Limits.{K}
use Rattle.tables.specs.Model.{Model}
use Rattle.plans.specs.Plan.{Plan, Fits, Opens, earns, earns_at}
use Rattle.plans.specs.Level.{Level}

pub record Earned (M : Model) (t a : ℕ) (covers : ℕ → Bool) (entry : ℕ → ℤ) : Type 0 where
  pub plan : Plan t
  pub fits : Fits M plan
  pub opens : Opens plan a
  pub earned : (s : ℕ) → s < M.states → covers s ≡ true → (K ^ t) · entry s ≤ℤ earns M plan s

pub record Certified (M : Model) (t : ℕ) (L : Level) : Type 0 where
  pub vector : (v : ℕ) → v < L.vectors → Earned M t (L.action v) (L.covers v) (L.entry v)
  pub corner : (s : ℕ) → s < M.states → (π : Plan t) → Fits M π → earns M π s ≤ℤ (K ^ t) · L.corner s
  pub point : (i : ℕ) → i < L.points → (π : Plan t) → Fits M π → earns_at M π (L.weight i) ≤ℤ (K ^ t) · L.value i

pub record RowsCertified (M : Model) (t : ℕ) (F Q : ℕ → ℕ → ℤ) : Type 0 where
  pub row : (π : Plan t) → Fits M π → (a : ℕ) → Opens π a → (s : ℕ) → s < M.states → earns M π s ≤ℤ (K ^ t) · F a s
  pub below : (a : ℕ) → a < M.actions → (s : ℕ) → s < M.states → F a s ≤ℤ Q a s
