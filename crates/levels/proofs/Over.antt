-- Slices with a level or rows laid over them: these are read from them again, the slices are as long as they were, and levels that agree are laid alike.
-- Assumes nothing.
--
-- In order: what the tests of lengths say; slices as long as others; entries elsewhere; a level over slices, read again; slices that are the same; rows.
use Rattle.integers.proofs.Kit.{◌≡◌, ◌∙◌, refl, ap, sym, true, false, Bool, cond, List, ℕ, ◌≤◌, ◌<◌, ◌*◌, le-leb, leb-true, length, ℤ, pos}
use Rattle.integers.proofs.Lists.{laid-at, laid-length, laid-cong, laid_rows-at, laid_rows-length, laid_rows-cong}
use Rattle.integers.proofs.Searches.{and-true, and_is}
use Rattle.tables.specs.Tables.{Tables}
use Rattle.tables.specs.Storage.{entry_in, model_of}
use Rattle.integers.specs.Cells.{laid}
use Rattle.integers.proofs.Parts.{is_T}
use Rattle.masks.specs.Masks.{covered, mask_of, covered_in}
use Rattle.masks.proofs.Bits.{mask-covers, mask-cong}
use Rattle.plans.specs.Level.{Level, Agree}
use Rattle.levels.specs.Storage.{Cells, cells, LentLevel, Rows, rows, lent, level_of, readable, complete, over, over_rows, lent_for}

-- what `readable` and `complete` test
pub record Readable (m : Tables) (l : LentLevel) : Type 0 where
  pub actions : l.vectors ≤ length l.cells.actions
  pub masks : l.vectors ≤ length l.cells.masks
  pub entries : l.vectors * m.states ≤ length l.cells.entries
  pub corners : m.states ≤ length l.cells.corners
  pub weights : l.points * m.states ≤ length l.cells.weights
  pub values : l.points ≤ length l.cells.values

pub record Complete (m : Tables) (l : LentLevel) : Type 0 where
  pub choices : l.vectors * m.observations ≤ length l.cells.choices
  pub read : Readable m l

-- two slices for each part that are as long as each other
pub record AsLong (x y : Cells) : Type 0 where
  pub choices : length y.choices ≡ length x.choices
  pub actions : length y.actions ≡ length x.actions
  pub masks : length y.masks ≡ length x.masks
  pub entries : length y.entries ≡ length x.entries
  pub corners : length y.corners ≡ length x.corners
  pub weights : length y.weights ≡ length x.weights
  pub values : length y.values ≡ length x.values

pub as_long : (x : Cells) → AsLong x x
as_long x = record { choices = refl; actions = refl; masks = refl; entries = refl; corners = refl; weights = refl; values = refl }

-- entries at states that are not covered are 0
abbrev pub ZeroElsewhere : ℕ → Level → Type 0
ZeroElsewhere n W = (v : ℕ) → v < W.vectors → (s : ℕ) → s < n → W.covers v s ≡ false → W.entry v s ≡ pos 0

-- so they are where a level is read
pub read-elsewhere : (m : Tables) (l : LentLevel) → ZeroElsewhere m.states (level_of m l)
read-elsewhere m l v h s b e = rw e

-- and where all states are covered there are none
pub covers-elsewhere : (n : ℕ) (W : Level) → ((v s : ℕ) → W.covers v s ≡ true) → ZeroElsewhere n W
covers-elsewhere n W all v h s b e = absurd (is_T (sym e ∙ all v s))

masked-entry : (b : Bool) (e : ℤ) → (b ≡ false → e ≡ pos 0) → cond b e (pos 0) ≡ e
masked-entry true e h = refl
masked-entry false e h = sym (h refl)

module _ (m : Tables) where
  module _ (l : LentLevel) where
    pub readable-true : readable m l ≡ true → Readable m l
    readable-true e =
        let n = and-true _ _ e in
        let b = and-true _ _ n.1 in
        let s = and-true _ _ b.1 in
        let p = and-true _ _ s.1 in
        let w = and-true _ _ p.1 in
        record {
          actions = leb-true _ _ n.0;
          masks = leb-true _ _ b.0;
          entries = leb-true _ _ s.0;
          corners = leb-true _ _ p.0;
          weights = leb-true _ _ w.0;
          values = leb-true _ _ w.1;
        }

    pub readable-is : Readable m l → readable m l ≡ true
    readable-is c =
        and_is (le-leb _ _ c.actions) (and_is (le-leb _ _ c.masks) (and_is (le-leb _ _ c.entries) (and_is (le-leb _ _ c.corners)
        (and_is (le-leb _ _ c.weights) (le-leb _ _ c.values)))))

    pub complete-true : complete m l ≡ true → Complete m l
    complete-true e = let h = and-true _ _ e in record { choices = leb-true _ _ h.0; read = readable-true h.1 }

    pub complete-is : Complete m l → complete m l ≡ true
    complete-is c = and_is (le-leb _ _ c.choices) (readable-is c.read)

  module _ (W : Level) (x : Cells) where
    mask-same : (v : ℕ) → v < W.vectors → (s : ℕ) → s < m.states
        → covered_in (laid W.vectors (λ v. mask_of m.states (W.covers v)) x.masks) v s ≡ W.covers v s
    mask-same v h s b =
        ap (λ (mask : ℕ). covered mask s) (laid-at W.vectors (λ v. mask_of m.states (W.covers v)) x.masks v 0 h)
        ∙ mask-covers m.states (W.covers v) s b

    -- The cells that are read lie where the level was laid; an entry at a state that is not covered is 0, and is read as 0. Qed.
    pub over_agree : ZeroElsewhere m.states W → Agree (model_of m) W (level_of m (lent_for W.vectors W.points (over m W x)))
    unfolding over
    over_agree zero = record {
      vectors_same = refl;
      points_same = refl;
      action_same = λ v h. laid-at W.vectors W.action x.actions v 0 h;
      choice_same = λ v h o b. laid_rows-at W.vectors m.observations W.choice x.choices v o 0 h b;
      covers_same = mask-same;
      entry_same = λ v h s b. rw (mask-same v h s b, laid_rows-at W.vectors m.states W.entry x.entries v s (pos 0) h b)
          (masked-entry (W.covers v s) (W.entry v s) (zero v h s b));
      corner_same = λ s h. laid-at m.states W.corner x.corners s (pos 0) h;
      weight_same = λ i h s b. laid_rows-at W.points m.states W.weight x.weights i s 0 h b;
      value_same = λ i h. laid-at W.points W.value x.values i (pos 0) h;
    }

    pub over-long : Complete m (lent_for W.vectors W.points x) → AsLong x (over m W x)
    unfolding over
    over-long c = record {
      choices = laid_rows-length W.vectors m.observations W.choice x.choices c.choices;
      actions = laid-length W.vectors W.action x.actions c.read.actions;
      masks = laid-length W.vectors _ x.masks c.read.masks;
      entries = laid_rows-length W.vectors m.states W.entry x.entries c.read.entries;
      corners = laid-length m.states W.corner x.corners c.read.corners;
      weights = laid_rows-length W.points m.states W.weight x.weights c.read.weights;
      values = laid-length W.points W.value x.values c.read.values;
    }

    pub over-same : (W' : Level) → Agree (model_of m) W W' → over m W' x ≡ over m W x
    unfolding over
    over-same W' e = rw (
      e.vectors_same,
      e.points_same,
      laid-cong W.vectors W'.action W.action x.actions e.action_same,
      laid_rows-cong W.vectors m.observations W'.choice W.choice x.choices e.choice_same,
      laid-cong W.vectors (λ v. mask_of m.states (W'.covers v)) (λ v. mask_of m.states (W.covers v)) x.masks
          (λ v h. mask-cong m.states (W'.covers v) (W.covers v) (e.covers_same v h)),
      laid_rows-cong W.vectors m.states W'.entry W.entry x.entries e.entry_same,
      laid-cong m.states W'.corner W.corner x.corners e.corner_same,
      laid_rows-cong W.points m.states W'.weight W.weight x.weights e.weight_same,
      laid-cong W.points W'.value W.value x.values e.value_same,
    )

  -- slices as long as complete ones are complete
  pub complete-long : {vectors points : ℕ} {x y : Cells} → AsLong x y → Complete m (lent_for vectors points x) → Complete m (lent_for vectors points y)
  complete-long a c = record {
    choices = rw a.choices c.choices;
    read = record {
      actions = rw a.actions c.read.actions;
      masks = rw a.masks c.read.masks;
      entries = rw a.entries c.read.entries;
      corners = rw a.corners c.read.corners;
      weights = rw a.weights c.read.weights;
      values = rw a.values c.read.values;
    };
  }

pub long-long : {x y z : Cells} → AsLong x y → AsLong y z → AsLong x z
long-long a b = record {
  choices = rw b.choices a.choices;
  actions = rw b.actions a.actions;
  masks = rw b.masks a.masks;
  entries = rw b.entries a.entries;
  corners = rw b.corners a.corners;
  weights = rw b.weights a.weights;
  values = rw b.values a.values;
}

-- slices that are the same, one by one
pub same_cells : {a a' b b' m m' : List ℕ} {e e' f f' : List ℤ} {w w' : List ℕ} {v v' : List ℤ} → a ≡ a' → b ≡ b' → m ≡ m' → e ≡ e' → f ≡ f' → w ≡ w'
    → v ≡ v' → cells a b m e f w v ≡ cells a' b' m' e' f' w' v'
same_cells p q k r s t u = rw (p, q, k, r, s, t, u)

-- and all that is lent, one by one
pub lent_same : {s s' : List ℕ} {x x' : Cells} {f f' q q' : List ℤ} → s ≡ s' → x ≡ x' → f ≡ f' → q ≡ q' → lent s x (rows f q) ≡ lent s' x' (rows f' q')
lent_same e c f q = rw (e, c, f, q)

-- ---- rows
module _ (m : Tables) (F Q : ℕ → ℕ → ℤ) (r : Rows) where
  pub informed-over : (a : ℕ) → a < m.actions → (s : ℕ) → s < m.states → entry_in m.states (over_rows m F Q r).informed a s ≡ F a s
  informed-over a h s b = laid_rows-at m.actions m.states F r.informed a s (pos 0) h b

  pub qmdp-over : (a : ℕ) → a < m.actions → (s : ℕ) → s < m.states → entry_in m.states (over_rows m F Q r).qmdp a s ≡ Q a s
  qmdp-over a h s b = laid_rows-at m.actions m.states Q r.qmdp a s (pos 0) h b

  pub informed-long : m.actions * m.states ≤ length r.informed → m.actions * m.states ≤ length (over_rows m F Q r).informed
  informed-long h = rw (laid_rows-length m.actions m.states F r.informed h) h

  pub qmdp-long : m.actions * m.states ≤ length r.qmdp → m.actions * m.states ≤ length (over_rows m F Q r).qmdp
  qmdp-long h = rw (laid_rows-length m.actions m.states Q r.qmdp h) h
