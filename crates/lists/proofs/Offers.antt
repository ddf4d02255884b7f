-- A level is accepted or refused alike by any T that is the model's at the states and actions that there are. Assumes nothing.
--
-- In order: sums over transitions; 21, 13, 14 and 15; an offer.
use Rattle.integers.proofs.Kit.{◌≡◌, ap, Bool, ◌||◌, List, ℕ, ◌<◌, ◌*◌, eqb, ltb, ℤ, ◌+ℤ◌, le_z}
use mathlib.Core.Bool.{not}
use Rattle.integers.specs.Whole.{◌·◌, sum_to}
use Rattle.integers.proofs.Searches.{every-cong}
use Rattle.integers.proofs.Sums.{sum-cong, total-cong}
use Rattle.tables.specs.Tables.{Tables}
use Rattle.refusals.specs.Verdicts.{Fine, unless}
use Rattle.tables.specs.Limits.{K, max_levels}
use Rattle.tables.specs.Model.{successor, expected_reward, backup}
use Rattle.tables.specs.Storage.{model_of}
use Rattle.refusals.proofs.Refusals.{before-fine, before-cong, first_cong}
use Rattle.columns.specs.Columns.{turned_back}
use Rattle.plans.specs.Level.{Level, backup_at, corner_weight, follows}
use Rattle.plans.proofs.Agreement.{ceiling-weights}
use Rattle.levels.specs.Storage.{LentLevel, Lent, level_of, standing_in, number_in}
use Rattle.levels.specs.Judged.{numbers_verdict, holds_up_to, fits, offer_over}
use Rattle.levels.specs.Judged.{covers_backups, masks_verdict, floors_verdict, corners_verdict, points_verdict, backups_verdict, level_verdict}
use Rattle.levels.specs.Judged.{shape_up_to, offer_up_to}
use Rattle.levels.proofs.Laws.{numbers-in}
use Rattle.lists.specs.Engines.{model_by}

module _ (m : Tables) (list : List ℕ) (same : (a : ℕ) → a < m.actions → (s : ℕ) → s < m.states → (s' : ℕ) → s' < m.states
    → turned_back m.states list s a s' ≡ (model_of m).transition s a s') where
  -- ---- sums over transitions
  pub successor-same : (p : ℕ → ℕ) (a : ℕ) → a < m.actions → (o s' : ℕ) → s' < m.states
      → successor (model_by m list) p a o s' ≡ successor (model_of m) p a o s'
  unfolding successor
  successor-same p a e o s' l = total-cong m.states _ _ (λ s h. ap (λ (t : ℕ). p s * t * (model_of m).observation a s' o) (same a e s h s' l))

  pub backup-same : (next : ℕ → ℕ → ℤ) (a : ℕ) → a < m.actions → (s : ℕ) → s < m.states
      → backup (model_by m list) a next s ≡ backup (model_of m) a next s
  unfolding backup
  backup-same next a e s l =
      ap (λ (z : ℤ). K · (model_of m).reward s a +ℤ m.discount · z)
      (sum-cong m.states _ _ (λ s' h. ap (λ (t : ℕ). sum_to m.observations (λ o. (t * (model_of m).observation a s' o) · next o s')) (same a e s l s' h)))

  pub backup_at-same : (L : Level) (p : ℕ → ℕ) (a : ℕ) → a < m.actions → backup_at (model_by m list) L p a ≡ backup_at (model_of m) L p a
  unfolding backup_at expected_reward
  backup_at-same L p a e =
      ap (λ (z : ℤ). K · sum_to m.states (λ s. p s · (model_of m).reward s a) +ℤ m.discount · z)
      (sum-cong m.observations _ _ (λ o h. ceiling-weights m.states L _ _ (λ s' l. successor-same p a e o s' l)))

  -- ---- 21, 13, 14 and 15
  covers_same : (L : Level) (p : ℕ → ℕ) (w : ℤ) → covers_backups (model_by m list) L p w ≡ covers_backups (model_of m) L p w
  covers_same L p w = every-cong m.actions _ _ (λ a e. ap (λ (z : ℤ). le_z z (K · w)) (backup_at-same L p a e))

  module _ (L W : Level) (acts : (v : ℕ) → v < W.vectors → W.action v < m.actions) where
    masks-same : masks_verdict (model_by m list) L W ≡ masks_verdict (model_of m) L W
    unfolding masks_verdict
    masks-same =
        first_cong W.vectors _ _ (λ v l. ap (λ (b : Bool). unless b 21 v)
        (every-cong m.states _ _ (λ s b. ap (λ (t : Bool). not (W.covers v s) || t)
        (every-cong m.observations _ _ (λ o c. every-cong m.states _ _ (λ s' b'.
        ap (λ (t : ℕ). eqb (t * (model_of m).observation (W.action v) s' o) 0 || L.covers (W.choice v o) s') (same (W.action v) (acts v l) s b s' b')))))))

    floors-same : floors_verdict (model_by m list) L W ≡ floors_verdict (model_of m) L W
    unfolding floors_verdict
    floors-same =
        first_cong W.vectors _ _ (λ v l. first_cong m.states _ _ (λ s b.
        ap (λ (z : ℤ). unless (not (W.covers v s) || le_z (K · W.entry v s) z) 13 v) (backup-same (follows L (W.choice v)) (W.action v) (acts v l) s b)))

    corners-same : corners_verdict (model_by m list) L W ≡ corners_verdict (model_of m) L W
    unfolding corners_verdict
    corners-same = first_cong m.states _ _ (λ s b. ap (λ (t : Bool). unless t 14 s) (covers_same L (corner_weight s) (W.corner s)))

    points_same : points_verdict (model_by m list) L W ≡ points_verdict (model_of m) L W
    unfolding points_verdict
    points_same = first_cong W.points _ _ (λ i b. ap (λ (t : Bool). unless t 15 i) (covers_same L (W.weight i) (W.value i)))

    backups-same : backups_verdict (model_by m list) L W ≡ backups_verdict (model_of m) L W
    unfolding backups_verdict
    backups-same = rw (masks-same, floors-same, corners-same, points_same)

  -- ---- an offer
  acts-in : (most : ℕ) (x : Lent) (l : LentLevel) → shape_up_to most m x l ≡ Fine → (v : ℕ) → v < l.vectors → (level_of m l).action v < m.actions
  unfolding shape_up_to level_verdict
  acts-in most x l e v b =
      let W = level_of m l in
      let e8 = before-fine (unless (holds_up_to most m x) 7 0) _ e in
      let e9 = before-fine (unless (ltb (number_in x) max_levels) 8 0) _ e8.1 in
      let e10 = before-fine (unless (fits most m x l) 9 0) _ e9.1 in
      let e11 = before-fine (numbers_verdict m.actions m.observations (standing_in x).vectors W) _ e10.1 in
      (numbers-in 10 W.vectors m.actions m.observations (standing_in x).vectors W.action W.choice e11.0 v b).0

  -- A level that passes 7 to 12 names actions that exist, and at these both models have one T. One that does not is refused before T is read. Qed.
  pub offer-same : (most : ℕ) (x : Lent) (l : LentLevel) → offer_over (model_by m list) most m x l ≡ offer_up_to most m x l
  unfolding offer_up_to
  offer-same most x l =
      before-cong (shape_up_to most m x l) (λ fine. backups-same (level_of m (standing_in x)) (level_of m l) (acts-in most x l fine))
