-- Laws of the builder's level: the weights that vectors are made at, and the rows of vectors. Assumes nothing.
--
-- In order: weights are read below the number of states only; the weights that vector v is made at; the rows of vectors, as a loop makes them.
use Rattle.integers.proofs.Kit.{◌≡◌, ◌∙◌, refl, ap, sym, true, List, [], ℕ, ◌≤◌, ◌<◌, ◌+◌, ◌*◌, ◌-◌, arith, mul-le-mul_right, dec_lt, ltb}
use Rattle.integers.proofs.Kit.{length, get_or, set, paste, ℤ, pos}
use lib.Arith.{le→nltb}
use lib.Dec.{lt→ltb}
use Rattle.integers.specs.Whole.{total_to, floor_div}
use Rattle.integers.specs.Cells.{laid}
use Rattle.integers.proofs.Lists.{row_below, padded-at, padded-length, laid_none, laid-turn, laid-length, laid-self, laid_rows-none, laid_rows-more}
use Rattle.integers.proofs.Lists.{laid_rows-length, laid_rows-flat}
use Rattle.integers.proofs.Parts.{T_true, T_false}
use Rattle.integers.proofs.Searches.{of-cong, largest-cong}
use Rattle.tables.specs.declared.Counts.{Counts}
use Rattle.tables.specs.Tables.{Tables}
use Rattle.tables.specs.Limits.{max_states, max_actions, max_observations, K, max_levels}
use Rattle.tables.specs.Model.{Model, Valid, backed_up}
use Rattle.tables.specs.Storage.{weight_in, counts_of, model_in, model_of}
use Rattle.tables.specs.Steps.{Stored}
use Rattle.masks.specs.Masks.{mask_of}
use Rattle.plans.specs.Limits.{max_total}
use Rattle.plans.specs.Level.{Level, covers_all, ceiling, gain, backup_at, corner_weight, follows, Shaped, IsPoint}
use Rattle.plans.specs.Build.{chosen, entry_for, best_action, least_for, least_value, seed, built}
use Rattle.plans.proofs.Agreement.{product-cong, successor-weights, backup-cong}
use Rattle.plans.proofs.Ceiling.{corner-total}
use Rattle.plans.proofs.Built.{action_exists, shaped-mono}
use Rattle.levels.specs.Storage.{Cells, cells, LentLevel, roof_in, level_in, level_of, point_in, over}
use Rattle.levels.proofs.Over.{Readable}
use Rattle.backups.specs.Steps.{Roofed}
use Rattle.backups.proofs.Lent.{floor-shaped, roof-lent}
use Rattle.candidates.specs.declared.Best.{Best}
use Rattle.candidates.specs.Steps.{top_built, candidate_of, best_of, upon_in, Upon}
use Rattle.builder.specs.Steps.{RowsFit, Filled}

-- ---- weights are read below the number of states only
module _ (M : Model) (L : Level) (p p' : ℕ → ℕ) (h : (s : ℕ) → s < M.states → p s ≡ p' s) (some : 0 < L.vectors) (acts : 0 < M.actions) where
  chosen-weights : (a o : ℕ) → chosen M L p a o ≡ chosen M L p' a o
  unfolding chosen
  chosen-weights a o =
      of-cong L.vectors _ _ _ _ some (λ v l. refl)
      (λ v l w. product-cong M.states _ _ _ _ (λ s b. successor-weights M p p' a o s h) (λ s b. refl))

  entry-weights : (a s : ℕ) → entry_for M L p a s ≡ entry_for M L p' a s
  unfolding entry_for backed_up follows
  entry-weights a s =
      ap (λ (z : ℤ). floor_div z K) (backup-cong M a _ _ s (λ o b s' k. ap (λ (v : ℕ). L.entry v s') (chosen-weights a o)))

  -- the best action, and its vector's choices and entries
  best-action : best_action M L p ≡ best_action M L p'
  unfolding best_action
  best-action = largest-cong M.actions _ _ acts (λ a b. product-cong M.states p p' _ _ h (λ s k. entry-weights a s))

  best-chosen : (o : ℕ) → chosen M L p (best_action M L p) o ≡ chosen M L p' (best_action M L p') o
  best-chosen o = chosen-weights _ o ∙ ap (λ (a : ℕ). chosen M L p' a o) best-action

  best-entry : (s : ℕ) → entry_for M L p (best_action M L p) s ≡ entry_for M L p' (best_action M L p') s
  best-entry s = entry-weights _ s ∙ ap (λ (a : ℕ). entry_for M L p' a s) best-action

-- ---- the weights that vector v is made at
module _ (n : ℕ) (weight : ℕ → ℕ → ℕ) (v : ℕ) where
  pub seed-corner : v < n → seed n weight v ≡ corner_weight v
  unfolding seed
  seed-corner h = rw (T_true (ltb v n) (lt→ltb v n h))

  pub seed-point : n ≤ v → seed n weight v ≡ weight (v - n)
  unfolding seed
  seed-point h = rw (T_false (ltb v n) (le→nltb v n h))

-- they total 1 at a corner, and what a point's weights do at a point
pub seed-light : (n count : ℕ) (weight : ℕ → ℕ → ℕ) → ((i : ℕ) → i < count → IsPoint n (weight i)) → (v : ℕ) → v < n + count
    → total_to n (seed n weight v) ≤ max_total
seed-light n count weight total v l = by (dec_lt v n)
  where
    by : Dec (v < n) → total_to n (seed n weight v) ≤ max_total
    by (yes h) = rw (seed-corner n weight v h) (omega (arith, corner-total n v h))
    by (no h) = rw (seed-point n weight v (omega arith)) (omega (arith, total (v - n) (omega arith)))

-- ---- the rows of vectors, as a loop makes them
-- vector v of a level, as the best candidate at some weights
pub record Made (n k : ℕ) (W : Level) (v : ℕ) (best : Best) : Type 0 where
  pub action_in : best.action.0 < max_actions
  pub action_is : best.action.0 ≡ W.action v
  pub chosen-long : length best.candidate.chosen ≡ max_observations
  pub chosen_is : (o : ℕ) → o < k → get_or best.candidate.chosen o 0 ≡ W.choice v o
  pub covers-all : W.covers v ≡ (λ s. true)
  pub entries_long : length best.candidate.entries ≡ max_states
  pub entries_are : (s : ℕ) → s < n → get_or best.candidate.entries s (pos 0) ≡ W.entry v s

-- The best candidate at the weights of v is vector v of the built level, which covers all states: action, choices and entries read the weights below the
-- number of states only. Qed.
pub vector-made : {c : Counts} {T O : List ℕ} {R : List ℤ} {masks : List ℕ} {entries : List ℤ} {vectors : ℕ} (count : ℕ) (weight : ℕ → ℕ → ℕ) (v : ℕ)
    (p : List ℕ) {best : Best} → Upon c T O R masks entries vectors → ((s : ℕ) → s < c.states → weight_in p s ≡ seed c.states weight v s)
    → best ≡ best_of (model_in c T O R) (upon_in c vectors masks entries) p
    → Made c.states c.observations (built (model_in c T O R) (upon_in c vectors masks entries) count weight) v best
unfolding built best_of candidate_of
vector-made {c} {T} {O} {R} {masks} {entries} {vectors} count weight v p h e f =
    let some = h.shaped.some_vectors in
    let acts = h.valid.some_actions in record {
      action_in = rw f (omega (arith, action_exists (model_in c T O R) (upon_in c vectors masks entries) (weight_in p) acts, h.valid.few_actions));
      action_is = rw f (best-action (model_in c T O R) _ _ _ e some acts);
      chosen-long = rw f (padded-length 0 max_observations c.observations _ h.valid.few_observations);
      chosen_is = λ o b. rw f (padded-at 0 max_observations c.observations _ o 0 b ∙ best-chosen (model_in c T O R) _ _ _ e some acts o);
      covers-all = refl;
      entries_long = rw f (padded-length (pos 0) max_states c.states _ h.valid.few_states);
      entries_are = λ s b. rw f (padded-at (pos 0) max_states c.states _ s (pos 0) b ∙ best-entry (model_in c T O R) _ _ _ e some acts s);
    }

-- there is room for a row more
pub record RowsRoom (n k v : ℕ) (actions choices masks : List ℕ) (entries : List ℤ) : Type 0 where
  pub actions_fit : v < length actions
  pub choices_fit : v * k + k ≤ length choices
  pub masks_fit : v < length masks
  pub entries_fit : v * n + n ≤ length entries

-- slices that are filled are as long as they were
pub record VectorsAsLong (actions choices masks : List ℕ) (entries : List ℤ) (actions' choices' masks' : List ℕ) (entries' : List ℤ) : Type 0 where
  pub actions_long : length actions' ≡ length actions
  pub choices_long : length choices' ≡ length choices
  pub masks_long : length masks' ≡ length masks
  pub entries_long : length entries' ≡ length entries

module _ (n k : ℕ) (W : Level) {actions choices masks : List ℕ} {entries : List ℤ} where
  pub filled_none : Filled n k W 0 actions choices masks entries actions choices masks entries
  filled_none = record {
    actions_are = sym (laid_none W.action actions);
    choices_are = sym (laid_rows-none k W.choice choices);
    masks_are = sym (laid_none _ masks);
    entries_are = sym (laid_rows-none n W.entry entries);
  }

  module _ {count v : ℕ} {actions' choices' masks' : List ℕ} {entries' : List ℤ} (fit : RowsFit n k count actions choices masks entries)
      (h : Filled n k W v actions choices masks entries actions' choices' masks' entries') where
    pub filled-long : v ≤ count → VectorsAsLong actions choices masks entries actions' choices' masks' entries'
    filled-long b = record {
      actions_long = rw h.actions_are (laid-length v W.action actions (omega (arith, fit.actions_fit)));
      choices_long = rw h.choices_are (laid_rows-length v k W.choice choices (omega (arith, fit.choices_fit, mul-le-mul_right k b)));
      masks_long = rw h.masks_are (laid-length v _ masks (omega (arith, fit.masks_fit)));
      entries_long = rw h.entries_are (laid_rows-length v n W.entry entries (omega (arith, fit.entries_fit, mul-le-mul_right n b)));
    }

    module _ (b : v < count) where
      pub rows-room : RowsRoom n k v actions' choices' masks' entries'
      rows-room =
          let l = filled-long (omega arith) in record {
            actions_fit = omega (arith, l.actions_long, fit.actions_fit);
            choices_fit = omega (arith, l.choices_long, fit.choices_fit, row_below v count k b);
            masks_fit = omega (arith, l.masks_long, fit.masks_fit);
            entries_fit = omega (arith, l.entries_long, fit.entries_fit, row_below v count n b);
          }

      row_fits : (w : ℕ) → (v + 1) * w ≤ count * w
      row_fits w = omega (arith, row_below v count w b)

      pub filled_more : {best : Best} {x mask : ℕ} {choices'' : List ℕ} {entries'' : List ℤ} → Made n k W v best → k ≤ max_observations → n ≤ max_states
          → x ≡ best.action.0 → mask ≡ mask_of n (λ s. true)
          → choices'' ≡ paste choices' (v * k) best.candidate.chosen k → entries'' ≡ paste entries' (v * n) best.candidate.entries n
          → Filled n k W (v + 1) actions choices masks entries (set actions' v x) choices'' (set masks' v mask) entries''
      filled_more {best} made little few e all f g = record {
        actions_are = laid-turn W.action v actions 0 h.actions_are (e ∙ made.action_is) (omega (arith, fit.actions_fit));
        choices_are =
            rw (f, h.choices_are)
            (laid_rows-more v k W.choice choices best.candidate.chosen 0 (omega (arith, row_fits k, fit.choices_fit))
            (omega (arith, made.chosen-long)) made.chosen_is);
        masks_are = laid-turn _ v masks 0 h.masks_are (all ∙ ap (mask_of n) (sym made.covers-all)) (omega (arith, fit.masks_fit));
        entries_are =
            rw (g, h.entries_are)
            (laid_rows-more v n W.entry entries best.candidate.entries (pos 0) (omega (arith, row_fits n, fit.entries_fit))
            (omega (arith, made.entries_long)) made.entries_are);
      }

-- tables and a level in slices that can be built upon lend what can be
module _ {m : Tables} {l : LentLevel} (valid : Valid (model_of m)) (stored : Stored (counts_of m) m.transition m.observation m.reward)
    (long : Readable m l) (shaped : Shaped (model_of m) top_built (level_of m l)) where
  -- the level is within the limits
  built-upon : Shaped (model_of m) max_levels (level_of m l)
  built-upon = shaped-mono _ _ top_built max_levels (omega arith) shaped

  pub upon-lent : Upon (counts_of m) m.transition m.observation m.reward l.cells.masks l.cells.entries l.vectors
  upon-lent = record {
    valid = valid;
    stored = stored;
    shaped = floor-shaped m valid.some_actions top_built l shaped;
    masks_stored = long.masks;
    entries_stored = long.entries;
  }

  pub roofed-lent : Roofed (counts_of m) m.transition m.observation m.reward l.cells.corners l.points l.cells.weights l.cells.values
  roofed-lent = roof-lent m l valid stored long built-upon

-- the builder reads no action and no choice of the standing level
pub built-read : (m : Tables) (l : LentLevel) (count : ℕ) (weight : ℕ → ℕ → ℕ)
    → built (model_of m) (level_in m.states m.observations l.vectors [] [] l.cells.masks l.cells.entries l.cells.corners l.points
    l.cells.weights l.cells.values) count weight
    ≡ built (model_of m) (level_of m l) count weight
unfolding built best_action entry_for chosen covers_all follows least_value least_for backup_at ceiling gain
built-read m l count weight = refl

-- The built level over slices, from its parts. Vectors are made from the standing vectors, least values from its corners and points, and the weights of
-- the points lie where they were given. Qed.
pub level-made : (m : Tables) (vectors : ℕ) (masks : List ℕ) (entries corners : List ℤ) (points : ℕ) (weights : List ℕ) (values : List ℤ) (count : ℕ)
    (x : Cells) {actions choices covers : List ℕ} {made least worths : List ℤ} → count * m.states ≤ length x.weights
    → Filled m.states m.observations (built (model_of m) (upon_in (counts_of m) vectors masks entries) count (point_in m.states x.weights))
    (m.states + count) x.actions x.choices x.masks x.entries actions choices covers made
    → least ≡ laid m.states (λ s. least_value (model_of m) (roof_in m.states corners points weights values) (corner_weight s)) x.corners
    → worths ≡ laid count (λ i. least_value (model_of m) (roof_in m.states corners points weights values) (point_in m.states x.weights i)) x.values
    → cells actions choices covers made least x.weights worths
    ≡ over m (built (model_of m) (level_in m.states m.observations vectors [] [] masks entries corners points weights values) count
    (point_in m.states x.weights)) x
unfolding over built best_action entry_for chosen covers_all follows least_value least_for backup_at ceiling gain
level-made m vectors masks entries corners points weights values count x fit f e g =
    let w = laid_rows-flat count m.states x.weights x.weights 0 ∙ laid-self (count * m.states) x.weights 0 fit in
    rw (f.actions_are, f.choices_are, f.masks_are, f.entries_are, e, g, w)
