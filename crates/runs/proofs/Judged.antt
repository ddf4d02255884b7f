-- From verdicts to facts, and back: what a standing level that holds, and an offer that is fine, are known to have, where a level has at most `most`
-- vectors. Assumes nothing.
--
-- In order: one test; a level by itself; a certifier, and an offer to it.
use Rattle.integers.proofs.Kit.{◌≡◌, refl, true, false, Bool, ◌||◌, List, ℕ, ◌≤◌, ◌<◌, ◌+◌, ◌*◌, arith, le-leb, leb-true, lt-ltb, ltb-true, leb}
use Rattle.integers.proofs.Kit.{length, ℤ, nat_abs, ◌≤ℤ◌}
use mathlib.Core.Bool.{not}
use Rattle.integers.specs.Whole.{◌·◌, total_to}
use Rattle.integers.proofs.Parts.{le_z-is, le-true}
use Rattle.integers.proofs.Searches.{and-true, and_is, every-at, at_every, zero_or}
use Rattle.tables.specs.Tables.{Tables}
use Rattle.refusals.specs.Verdicts.{Fine}
use Rattle.tables.specs.Limits.{K, max_levels}
use Rattle.tables.specs.Model.{Model, Valid, backup}
use Rattle.tables.specs.Storage.{counts_of, entry_in, model_of}
use Rattle.tables.specs.Steps.{Stored}
use Rattle.tables.specs.Judged.{tables_verdict}
use Rattle.refusals.proofs.Refusals.{before-fine, unless-fine, fine-at, at-fine, fine-true, fine-is}
use Rattle.tables.proofs.Accepted.{tables-valid, tables-stored, tables-fine}
use Rattle.plans.specs.Limits.{max_total, range}
use Rattle.plans.specs.Level.{Level, backup_at, corner_weight, follows, Meets, ShapedUpTo, IsPoint}
use Rattle.levels.specs.Judged.{counts_hold, rows_within, total_holds, values_within, ranges_verdict, weights_verdict, actions_exist}
use Rattle.levels.specs.Judged.{numbers_in, numbers_verdict, masks_verdict, floors_verdict, covers_backups, corners_verdict, points_verdict, level_verdict}
use Rattle.levels.specs.Judged.{rows_hold, holds_up_to, fits, shape_up_to, backups_verdict, offer_up_to}
use Rattle.levels.specs.Storage.{LentLevel, Lent, state_size, level_of, number_in, standing_in, lent_for}
use Rattle.levels.proofs.Laws.{passed, fine_before, only_if, numbers-in, masks-in}
use Rattle.levels.proofs.Over.{Readable, Complete, readable-true, readable-is, complete-true, complete-is}

-- ---- one test
rows-fine : (number rows w limit : ℕ) (cell : ℕ → ℕ → ℤ) → rows_within number rows w limit cell ≡ Fine
    → (r : ℕ) → r < rows → (x : ℕ) → x < w → nat_abs (cell r x) ≤ limit
unfolding rows_within
rows-fine number rows w limit cell e r l x b = leb-true _ _ (unless-fine _ _ _ (fine-at _ w (fine-at _ rows e r l) x b))

pub rows_is : (number rows w limit : ℕ) (cell : ℕ → ℕ → ℤ) → ((r : ℕ) → r < rows → (x : ℕ) → x < w → nat_abs (cell r x) ≤ limit)
    → rows_within number rows w limit cell ≡ Fine
unfolding rows_within
rows_is number rows w limit cell h = at-fine _ rows (λ r l. at-fine _ w (λ x b. passed number r (le-leb _ _ (h r l x b))))

if-covered : (a b : Bool) → (a ≡ true → b ≡ true) → (not a || b) ≡ true
if-covered true b e = e refl
if-covered false b e = refl

-- a number that is not passed over
if-so : (a b : Bool) → b ≡ true → (not a || b) ≡ true
if-so a b e = if-covered a b (λ h. e)

covers-true : (M : Model) (L : Level) (p : ℕ → ℕ) (w : ℤ) → covers_backups M L p w ≡ true → (a : ℕ) → a < M.actions → backup_at M L p a ≤ℤ K · w
covers-true M L p w e a l = le-true _ _ (every-at M.actions _ e a l)

covers-is : (M : Model) (L : Level) (p : ℕ → ℕ) (w : ℤ) → ((a : ℕ) → a < M.actions → backup_at M L p a ≤ℤ K · w) → covers_backups M L p w ≡ true
covers-is M L p w h = at_every M.actions _ (λ a l. le_z-is _ _ (h a l))

-- ---- a level by itself
point-true : (n : ℕ) (p : ℕ → ℕ) → total_holds (total_to n p) ≡ true → IsPoint n p
point-true n p e = let h = and-true (leb 1 (total_to n p)) (leb (total_to n p) max_total) e in (leb-true 1 _ h.0, leb-true _ max_total h.1)

point-is : (n : ℕ) (p : ℕ → ℕ) → IsPoint n p → total_holds (total_to n p) ≡ true
point-is n p h = and_is (le-leb 1 (total_to n p) h.0) (le-leb (total_to n p) max_total h.1)

pub weights-fine : (n points : ℕ) (weight : ℕ → ℕ → ℕ) → weights_verdict n points weight ≡ Fine
    → (i : ℕ) → i < points → IsPoint n (weight i)
unfolding weights_verdict
weights-fine n points weight e i l = point-true n (weight i) (unless-fine _ 12 i (fine-at _ points e i l))

pub weights-is : (n points : ℕ) (weight : ℕ → ℕ → ℕ) → ((i : ℕ) → i < points → IsPoint n (weight i))
    → weights_verdict n points weight ≡ Fine
unfolding weights_verdict
weights-is n points weight h = at-fine _ points (λ i l. passed 12 i (point-is n (weight i) (h i l)))

-- no value is passed over where 12 refuses no total
module _ (n points limit : ℕ) (weight : ℕ → ℕ → ℕ) (value : ℕ → ℤ) where
  values-fine : weights_verdict n points weight ≡ Fine → values_within n points limit weight value ≡ Fine
      → (i : ℕ) → i < points → nat_abs (value i) ≤ total_to n (weight i) * limit
  unfolding values_within
  values-fine weights e i l =
      leb-true _ _ (only_if (total_holds (total_to n (weight i))) _ (unless-fine _ 11 i (fine-at _ points e i l))
      (point-is n (weight i) (weights-fine n points weight weights i l)))

  pub values-is : ((i : ℕ) → i < points → nat_abs (value i) ≤ total_to n (weight i) * limit) → values_within n points limit weight value ≡ Fine
  unfolding values_within
  values-is h = at-fine _ points (λ i l. passed 11 i (if-so (total_holds (total_to n (weight i))) _ (le-leb _ _ (h i l))))

-- the tests of a level by itself, in the order of the standing level's
pub record Tests (most : ℕ) (M : Model) (t : ℕ) (W : Level) : Type 0 where
  pub counts : counts_hold most W.vectors W.points ≡ true
  pub actions : actions_exist M.actions W.vectors W.action ≡ true
  pub ranges : ranges_verdict M.states t W ≡ Fine
  pub weights : weights_verdict M.states W.points W.weight ≡ Fine

module _ (most : ℕ) (M : Model) (t : ℕ) (W : Level) where
  pub tests-shaped : Tests most M t W → ShapedUpTo most M t W
  unfolding ranges_verdict
  tests-shaped e =
      let c = and-true _ _ e.counts in
      let v = and-true _ _ c.0 in
      let r = before-fine _ _ e.ranges in
      let q = before-fine _ _ r.1 in
      record {
        some_vectors = leb-true 1 W.vectors v.0;
        few_vectors = leb-true _ _ v.1;
        few_points = leb-true _ _ c.1;
        action_in = λ v l. ltb-true _ _ (every-at _ _ e.actions v l);
        entry_fits = rows-fine 11 W.vectors M.states (range t) W.entry r.0;
        corner_fits = λ s l. rows-fine 11 M.states 1 (range t) (λ s x. W.corner s) q.0 s l 0 (omega arith);
        value_fits = values-fine M.states W.points (range t) W.weight W.value e.weights q.1;
        total = weights-fine _ _ _ e.weights;
      }

  shaped-tests : ShapedUpTo most M t W → Tests most M t W
  unfolding ranges_verdict
  shaped-tests S = record {
    counts = and_is (and_is (le-leb 1 W.vectors (omega (arith, S.some_vectors))) (le-leb _ _ S.few_vectors)) (le-leb _ _ S.few_points);
    actions = at_every _ _ (λ v l. lt-ltb _ _ (S.action_in v l));
    ranges =
        fine_before (rows_is 11 W.vectors M.states (range t) W.entry S.entry_fits)
        (fine_before (rows_is 11 M.states 1 (range t) (λ s x. W.corner s) (λ s l x b. S.corner_fits s l))
        (values-is M.states W.points (range t) W.weight W.value S.value_fits));
    weights = weights-is _ _ _ S.total;
  }

-- ---- a certifier, and an offer to it
-- rows of m actions and n states within the range of level t, in a slice that is long enough
pub record RowsIn (m n t : ℕ) (cells : List ℤ) : Type 0 where
  pub long : m * n ≤ length cells
  pub entry : (a : ℕ) → a < m → (s : ℕ) → s < n → nat_abs (entry_in n cells a s) ≤ range t

module _ (m n t : ℕ) (cells : List ℤ) where
  rows_true : rows_hold m n t cells ≡ true → RowsIn m n t cells
  rows_true e =
      let h = and-true _ _ e in
      record { long = leb-true _ _ h.0; entry = rows-fine 7 m n (range t) (entry_in n cells) (fine-true _ h.1) }

  rows_in : RowsIn m n t cells → rows_hold m n t cells ≡ true
  rows_in h = and_is (le-leb _ _ h.long) (fine-is (rows_is 7 m n (range t) (entry_in n cells) h.entry))

-- what 7 tests
pub record Held (most : ℕ) (m : Tables) (x : Lent) : Type 0 where
  pub valid-tables : Valid (model_of m)
  pub stored-tables : Stored (counts_of m) m.transition m.observation m.reward
  pub state-long : state_size ≤ length x.state
  pub few-levels : number_in x ≤ max_levels
  pub read : Readable m (standing_in x)
  pub shaped : ShapedUpTo most (model_of m) (number_in x) (level_of m (standing_in x))
  pub informed : RowsIn m.actions m.states (number_in x) x.rows.informed
  pub qmdp : RowsIn m.actions m.states (number_in x) x.rows.qmdp

-- what 7 to 15 and 21 test
pub record Accepted (most : ℕ) (m : Tables) (x : Lent) (l : LentLevel) : Type 0 where
  pub standing : Held most m x
  pub room : number_in x < max_levels
  pub given : Complete m l
  pub held : Complete m (lent_for l.vectors l.points x.cells)
  pub shaped : ShapedUpTo most (model_of m) (number_in x + 1) (level_of m l)
  pub meets : Meets (model_of m) (level_of m (standing_in x)) (level_of m l)

-- what 7 to 12 test
pub record Fitting (most : ℕ) (m : Tables) (x : Lent) (l : LentLevel) : Type 0 where
  pub standing : Held most m x
  pub room : number_in x < max_levels
  pub given : Complete m l
  pub held : Complete m (lent_for l.vectors l.points x.cells)
  pub shaped : ShapedUpTo most (model_of m) (number_in x + 1) (level_of m l)
  pub chosen : (v : ℕ) → v < l.vectors → (o : ℕ) → o < m.observations → (level_of m l).choice v o < (standing_in x).vectors

module _ (most : ℕ) (m : Tables) (x : Lent) where
  pub standing-true : holds_up_to most m x ≡ true → Held most m x
  unfolding holds_up_to
  standing-true e =
      let tables = and-true _ _ e in
      let state = and-true _ _ tables.1 in
      let number = and-true _ _ state.1 in
      let counts = and-true _ _ number.1 in
      let read = and-true _ _ counts.1 in
      let actions = and-true _ _ read.1 in
      let ranges = and-true _ _ actions.1 in
      let weights = and-true _ _ ranges.1 in
      let rows = and-true _ _ weights.1 in
      let fine = fine-true (tables_verdict m) tables.0 in
      record {
        valid-tables = tables-valid m fine;
        stored-tables = tables-stored m fine;
        state-long = leb-true _ _ state.0;
        few-levels = leb-true _ _ number.0;
        read = readable-true m (standing_in x) read.0;
        shaped = tests-shaped most (model_of m) (number_in x) (level_of m (standing_in x)) record {
          counts = counts.0;
          actions = actions.0;
          ranges = fine-true _ ranges.0;
          weights = fine-true _ weights.0;
        };
        informed = rows_true m.actions m.states (number_in x) x.rows.informed rows.0;
        qmdp = rows_true m.actions m.states (number_in x) x.rows.qmdp rows.1;
      }

  pub standing-is : Held most m x → holds_up_to most m x ≡ true
  unfolding holds_up_to
  standing-is s =
      let e = shaped-tests most (model_of m) (number_in x) (level_of m (standing_in x)) s.shaped in
      and_is (fine-is (tables-fine m s.valid-tables s.stored-tables)) (and_is (le-leb _ _ s.state-long) (and_is (le-leb _ _ s.few-levels)
      (and_is e.counts (and_is (readable-is m (standing_in x) s.read) (and_is e.actions (and_is (fine-is e.ranges)
      (and_is (fine-is e.weights) (and_is (rows_in m.actions m.states (number_in x) x.rows.informed s.informed)
      (rows_in m.actions m.states (number_in x) x.rows.qmdp s.qmdp)))))))))

  module _ (l : LentLevel) where
    abbrev M : Model
    M = model_of m

    abbrev L : Level
    L = level_of m (standing_in x)

    abbrev W : Level
    W = level_of m l

    pub numbers-fine : numbers_verdict M.actions M.observations L.vectors W ≡ Fine
        → (v : ℕ) → v < W.vectors → (W.action v < M.actions) × ((o : ℕ) → o < M.observations → W.choice v o < L.vectors)
    numbers-fine e = numbers-in 10 W.vectors M.actions M.observations L.vectors W.action W.choice e

    floors-fine : floors_verdict M L W ≡ Fine → (v : ℕ) → v < W.vectors → (s : ℕ) → s < M.states → W.covers v s ≡ true
        → K · W.entry v s ≤ℤ backup M (W.action v) (follows L (W.choice v)) s
    unfolding floors_verdict
    floors-fine e v l s b c =
        le-true _ _ (only_if (W.covers v s) _ (unless-fine _ _ _ (fine-at _ M.states (fine-at _ W.vectors e v l) s b)) c)

    corners-fine : corners_verdict M L W ≡ Fine
        → (s : ℕ) → s < M.states → (a : ℕ) → a < M.actions → backup_at M L (corner_weight s) a ≤ℤ K · W.corner s
    unfolding corners_verdict
    corners-fine e s l = covers-true M L (corner_weight s) (W.corner s) (unless-fine _ _ _ (fine-at _ M.states e s l))

    points-fine : points_verdict M L W ≡ Fine
        → (i : ℕ) → i < W.points → (a : ℕ) → a < M.actions → backup_at M L (W.weight i) a ≤ℤ K · W.value i
    unfolding points_verdict
    points-fine e i l = covers-true M L (W.weight i) (W.value i) (unless-fine _ _ _ (fine-at _ W.points e i l))

    -- Each stage of a fine verdict is fine, so each of its tests passed: the tests of 9 to 12 are the limits of `Shaped`, with the actions of 10. Qed.
    pub fitting : shape_up_to most m x l ≡ Fine → Fitting most m x l
    unfolding shape_up_to level_verdict
    fitting e =
        let e8 = before-fine _ _ e in
        let e9 = before-fine _ _ e8.1 in
        let e10 = before-fine _ _ e9.1 in
        let e11 = before-fine _ _ e10.1 in
        let e12 = before-fine _ _ e11.1 in
        let numbers = numbers-fine e11.0 in
        let sizes = and-true _ _ (unless-fine (fits most m x l) 9 0 e10.0) in
        let slices = and-true _ _ sizes.1 in
        record {
          standing = standing-true (unless-fine _ _ _ e8.0);
          room = ltb-true _ _ (unless-fine _ _ _ e9.0);
          given = complete-true m l slices.0;
          held = complete-true m (lent_for l.vectors l.points x.cells) slices.1;
          shaped = tests-shaped most M (number_in x + 1) W record {
            counts = sizes.0;
            actions = at_every _ _ (λ v l. lt-ltb _ _ (numbers v l).0);
            ranges = e12.0;
            weights = e12.1;
          };
          chosen = λ v b. (numbers v b).1;
        }

    -- An accepted offer has the shape of the next level and meets its inequalities over the standing one: the tests of 10, 21 and 13 to 15 are the
    -- conditions of `Meets`. Qed.
    pub accepted : offer_up_to most m x l ≡ Fine → Accepted most m x l
    unfolding offer_up_to backups_verdict
    accepted e =
        let stages = before-fine _ _ e in
        let f = fitting stages.0 in
        let e13 = before-fine _ _ stages.1 in
        let e14 = before-fine _ _ e13.1 in
        let e15 = before-fine _ _ e14.1 in
        record {
          standing = f.standing;
          room = f.room;
          given = f.given;
          held = f.held;
          shaped = f.shaped;
          meets = record {
            vector = λ v b. record {
              action_exists = f.shaped.action_in v b;
              choice_exists = f.chosen v b;
              covers_reached = masks-in M L W e13.0 v b;
              entry_holds = floors-fine e14.0 v b;
            };
            corner = corners-fine e15.0;
            point = points-fine e15.1;
          };
        }

    -- The other way round: every test of every stage passes. Qed.
    pub accepts : Accepted most m x l → offer_up_to most m x l ≡ Fine
    unfolding offer_up_to shape_up_to level_verdict backups_verdict numbers_in masks_verdict floors_verdict corners_verdict points_verdict
    accepts a =
        let e = shaped-tests most M (number_in x + 1) W a.shaped in
        let h = a.meets in
        fine_before (fine_before (passed 7 0 (standing-is a.standing))
        (fine_before (passed 8 0 (lt-ltb _ _ a.room))
        (fine_before (passed 9 0 (and_is e.counts (and_is (complete-is m l a.given)
        (complete-is m (lent_for l.vectors l.points x.cells) a.held))))
        (fine_before (at-fine _ W.vectors (λ v l. fine_before (passed 10 v (lt-ltb _ _ (h.vector v l).action_exists))
        (at-fine _ M.observations (λ o b. passed 10 v (lt-ltb _ _ ((h.vector v l).choice_exists o b))))))
        (fine_before e.ranges
        e.weights)))))
        (fine_before (at-fine _ W.vectors (λ v l. passed 21 v (at_every M.states _ (λ s b. if-covered (W.covers v s) _
        (λ c. at_every M.observations _ (λ o k. at_every M.states _ (λ s' b'. zero_or _ _ ((h.vector v l).covers_reached s b c o k s' b'))))))))
        (fine_before (at-fine _ W.vectors (λ v l. at-fine _ M.states
        (λ s b. passed 13 v (if-covered (W.covers v s) _ (λ c. le_z-is _ _ ((h.vector v l).entry_holds s b c))))))
        (fine_before (at-fine _ M.states (λ s l. passed 14 s (covers-is M L (corner_weight s) (W.corner s) (h.corner s l))))
        (at-fine _ W.points (λ i l. passed 15 i (covers-is M L (W.weight i) (W.value i) (h.point i l)))))))
