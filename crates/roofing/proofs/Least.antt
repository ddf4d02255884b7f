-- Laws of the least values. Assumes nothing.
use Rattle.integers.proofs.Kit.{◌≡◌, ◌∙◌, ap, List, ℕ, ◌<◌, ◌^◌, ℤ, mag, w64, to_z, of_z}
use Rattle.integers.specs.Whole.{ceil_div}
use Rattle.integers.proofs.Words.{answer}
use Rattle.integers.proofs.Searches.{largest-cong, largest-in}
use Rattle.tables.specs.declared.Counts.{Counts}
use Rattle.tables.specs.Limits.{K}
use Rattle.tables.specs.Storage.{model_in}
use Rattle.plans.specs.Level.{Level}
use Rattle.plans.specs.Build.{least_for, least_value}
use Rattle.backups.specs.Steps.{CeilingOf, Allowed}
use Rattle.roofing.specs.Steps.{least_from, least_roof}

-- ---- the least value, from what each action allows
module _ {c : Counts} {T O : List ℕ} {R : List ℤ} {roof : List ℕ → ℤ} {p : ℕ → ℕ} {backups : List ℤ} (h : Allowed c T O R roof p backups)
    (some : 0 < c.actions) (L : Level) (is : CeilingOf c.states roof L) where
  least-is : least_roof c.actions backups ≡ least_value (model_in c T O R) L p
  unfolding least_value least_for
  least-is =
      let f = least_from backups in let n = c.actions in
      let same = largest-cong n f (least_for (model_in c T O R) L p) some (λ a l. ap (λ (z : ℤ). ceil_div z K) (h.backup L is a l)) in
      ap (λ (z : ℤ). ceil_div z K) (h.backup L is _ (largest-in n f some)) ∙ ap (least_for (model_in c T O R) L p) same

  -- an answer, from its bits
  pub least-said : {z : ℤ} → mag z < 2 ^ 63 → z ≡ least_roof c.actions backups → to_z w64 (of_z w64 z) ≡ least_value (model_in c T O R) L p
  least-said ok e = answer ok (e ∙ least-is)
