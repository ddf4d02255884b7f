-- New prices that are not refused: what is then known, and what is read from the slices that the call leaves. Assumes nothing.
--
--   Priced, priced       what 7, 3, 5, 6 and 23 test
--   level-same           what is handed in with tables is read by their counts
--   moved-agree, ..      the moved level is read again, from slices as long as they were
use Rattle.integers.proofs.Kit.{◌≡◌, ◌∙◌, refl, ap, true, false, Bool, cond, ℕ, ◌<◌, eqb-true, ℤ, pos}
use Rattle.integers.proofs.Lists.{laid-at, laid-length, laid_rows-at, laid_rows-length}
use Rattle.integers.proofs.Searches.{and-true, every-at}
use Rattle.tables.specs.Tables.{Tables}
use Rattle.refusals.specs.Verdicts.{Fine}
use Rattle.tables.specs.Limits.{max_vectors}
use Rattle.tables.specs.Model.{Model, Valid}
use Rattle.tables.specs.Storage.{counts_of, entry_in, model_of}
use Rattle.tables.specs.Steps.{Stored}
use Rattle.refusals.proofs.Refusals.{before-fine, unless-fine}
use Rattle.tables.proofs.Accepted.{tables-valid, tables-stored}
use Rattle.masks.specs.Masks.{covered_in}
use Rattle.plans.specs.Level.{Level, Agree}
use Rattle.plans.specs.Prices.{SamePlans, repriced, raised_rows}
use Rattle.levels.specs.Storage.{Cells, LentLevel, Lent, level_of, lent_for}
use Rattle.levels.proofs.Over.{Readable, AsLong}
use Rattle.runs.specs.Prices.{cells_same, same_plans, prices_verdict, over_numbers}
use Rattle.runs.proofs.Judged.{Held, standing-true}

-- ---- 23
cells-true : (m n w : ℕ) (cell new : ℕ → ℕ → ℕ → ℕ) → cells_same m n w cell new ≡ true
    → (a : ℕ) → a < m → (s : ℕ) → s < n → (x : ℕ) → x < w → new a s x ≡ cell a s x
cells-true m n w cell new e a la s ls x lx = eqb-true _ _ (every-at w _ (every-at n _ (every-at m _ e a la) s ls) x lx)

same_true : (M M' : Model) → same_plans M M' ≡ true → SamePlans M M'
unfolding same_plans
same_true M M' e =
    let counts = and-true _ _ e in
    let n = and-true _ _ counts.0 in
    let m = and-true _ _ n.1 in
    let k = and-true _ _ m.1 in
    let cells = and-true _ _ counts.1 in
    record {
      states_same = eqb-true _ _ n.0;
      actions_same = eqb-true _ _ m.0;
      observations_same = eqb-true _ _ k.0;
      discount_same = eqb-true _ _ k.1;
      transition_same = cells-true _ _ _ (λ a s s'. M.transition s a s') (λ a s s'. M'.transition s a s') cells.0;
      observation_same = cells-true _ _ _ (λ a s' o. M.observation a s' o) (λ a s' o. M'.observation a s' o) cells.1;
    }

pub record Priced (m : Tables) (x : Lent) (m' : Tables) : Type 0 where
  pub standing : Held max_vectors m x
  pub valid : Valid (model_of m')
  pub stored : Stored (counts_of m') m'.transition m'.observation m'.reward
  pub same : SamePlans (model_of m) (model_of m')

-- each stage of a fine verdict is fine
pub priced : (m : Tables) (x : Lent) (m' : Tables) → prices_verdict m x m' ≡ Fine → Priced m x m'
unfolding prices_verdict
priced m x m' e =
    let own = before-fine _ _ e in
    let new = before-fine _ _ own.1 in
    record {
      standing = standing-true max_vectors m x (unless-fine _ _ _ own.0);
      valid = tables-valid m' new.0;
      stored = tables-stored m' new.0;
      same = same_true (model_of m) (model_of m') (unless-fine _ _ _ new.1);
    }

-- ---- what is read by counts
module _ (m m' : Tables) (states : m'.states ≡ m.states) where
  pub level-same : m'.observations ≡ m.observations → (l : LentLevel) → level_of m' l ≡ level_of m l
  level-same observations l = rw (states, observations)

  pub readable-same : (l : LentLevel) → Readable m l → Readable m' l
  readable-same l r = record {
    actions = r.actions;
    masks = r.masks;
    entries = rw states r.entries;
    corners = rw states r.corners;
    weights = rw states r.weights;
    values = r.values;
  }

-- ---- what is left
covered-entry : (b : Bool) (new old : ℤ) → cond b (cond b new old) (pos 0) ≡ cond b new (pos 0)
covered-entry true new old = refl
covered-entry false new old = refl

module _ (m : Tables) (l : LentLevel) (t d : ℕ) where
  abbrev W : Level
  W = repriced m.states t d (level_of m l)

  abbrev y : Cells
  y = over_numbers m W l.cells

  -- The numbers that are read lie where they were laid; at a state that is not covered 0 is read, before and after. Qed.
  pub moved-agree : Agree (model_of m) W (level_of m (lent_for l.vectors l.points y))
  unfolding over_numbers repriced
  moved-agree = record {
    vectors_same = refl;
    points_same = refl;
    action_same = λ v h. refl;
    choice_same = λ v h o b. refl;
    covers_same = λ v h s b. refl;
    entry_same = λ v h s b.
        let c = covered_in l.cells.masks v s in
        ap (λ (z : ℤ). cond c z (pos 0)) (laid_rows-at l.vectors m.states
        (λ v s. cond (covered_in l.cells.masks v s) (W.entry v s) (entry_in m.states l.cells.entries v s)) l.cells.entries v s (pos 0) h b)
        ∙ covered-entry c (W.entry v s) (entry_in m.states l.cells.entries v s) ∙ masked c _ _;
    corner_same = λ s h. laid-at m.states W.corner l.cells.corners s (pos 0) h;
    weight_same = λ i h s b. refl;
    value_same = λ i h. laid-at l.points W.value l.cells.values i (pos 0) h;
  }
    where
      masked : (b : Bool) (new old : ℤ) → cond b (cond b new (cond b old (pos 0))) (pos 0) ≡ cond b new (cond b old (pos 0))
      masked true new old = refl
      masked false new old = refl

  pub moved-long : Readable m l → AsLong l.cells y
  unfolding over_numbers repriced
  moved-long r = record {
    choices = refl;
    actions = refl;
    masks = refl;
    entries = laid_rows-length l.vectors m.states _ l.cells.entries r.entries;
    corners = laid-length m.states W.corner l.cells.corners r.corners;
    weights = refl;
    values = laid-length l.points W.value l.cells.values r.values;
  }

  pub moved-read : Readable m l → Readable m (lent_for l.vectors l.points y)
  unfolding over_numbers
  moved-read r = let long = moved-long r in record {
    actions = r.actions;
    masks = r.masks;
    entries = rw long.entries r.entries;
    corners = rw long.corners r.corners;
    weights = r.weights;
    values = rw long.values r.values;
  }

-- an entry of a row, moved
pub raised-same : {t t' : ℕ} → t ≡ t' → (d : ℕ) (F F' : ℕ → ℕ → ℤ) (a s : ℕ) → F a s ≡ F' a s → raised_rows t d F a s ≡ raised_rows t' d F' a s
unfolding raised_rows
raised-same e d F F' a s f = rw (e, f)
