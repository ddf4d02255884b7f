-- What the call asks of its steps when the verdict is fine, and what they leave together. Assumes nothing.
--
--   within-rows                   numbers within a limit, row by row and cell by cell
--   rewards-within, change-few    rewards, and the largest change of them
--   move-few, vectors-ask, ..     how far numbers are moved, and what is known of them
--   priced-refused, priced-fine   what is left is what is defined
use Rattle.integers.proofs.Kit.{◌≡◌, ◌∙◌, refl, ap, sym, subst, true, false, Bool, cond, List, ℕ, ◌≤◌, ◌<◌, ◌+◌, ◌*◌, ◌/◌, ◌%◌, arith, mul-le-mul, length}
use Rattle.integers.proofs.Kit.{get_or}
use Rattle.integers.proofs.Kit.{ℤ, pos, nat_abs}
use native.Mathlib.Nat as NatL
use Rattle.std.specs.Prelude.{Err}
use Rattle.integers.specs.Whole.{largest_to, Within}
use Rattle.integers.specs.Cells.{laid, laid_rows}
use Rattle.integers.proofs.Sums.{largest-ind}
use Rattle.integers.proofs.Sizes.{abs-sub}
use Rattle.integers.proofs.Lists.{laid_rows-cong}
use Rattle.tables.specs.Tables.{Tables}
use Rattle.refusals.specs.declared.Refusal.{Refusal}
use Rattle.refusals.specs.Verdicts.{Fine}
use Rattle.tables.specs.Limits.{max_reward, max_entry, max_levels, max_vectors}
use Rattle.tables.specs.Model.{Valid}
use Rattle.tables.specs.Storage.{counts_of, entry_in, model_of}
use Rattle.tables.specs.Steps.{Stored}
use Rattle.masks.specs.Masks.{covered_in}
use Rattle.plans.specs.Limits.{range}
use Rattle.plans.specs.Prices.{change, fallen, repriced, raised_rows}
use Rattle.levels.specs.declared.Standing.{Standing}
use Rattle.levels.specs.Storage.{Lent, rows, cells, lent, standing_at, number_in, standing_in}
use Rattle.levels.proofs.Over.{same_cells, lent_same}
use Rattle.runs.specs.Prices.{prices_verdict, over_numbers, priced_of}
use Rattle.runs.proofs.Judged.{Held}
use Rattle.runs.proofs.Prices.{Priced}
use Rattle.pricing.specs.Steps.{max_move, change_at, Vectors, PricedPoints, lowered_in, raised_in, value_in}
use Rattle.pricing.proofs.Moved.{rows-laid}

within-rows : (r w limit : ℕ) (xs : List ℤ) → 0 < w → r * w ≤ length xs
    → ((i : ℕ) → i < r → (x : ℕ) → x < w → nat_abs (get_or xs (i * w + x) (pos 0)) ≤ limit) → Within limit (r * w) xs
within-rows r w limit xs some long h = record {
  long = long;
  within = λ i l. rw (NatL.div-add-mod' i w) at (h (i / w) ((NatL.div-lt_iff_lt-mul some).1 l) (i % w) (NatL.mod-lt i some));
}

-- ---- rewards
pub rewards-within : (m : Tables) → Valid (model_of m) → Stored (counts_of m) m.transition m.observation m.reward
    → Within max_reward (m.actions * m.states) m.reward
rewards-within m v s = within-rows m.actions m.states max_reward m.reward v.some_states s.rewards v.reward_limit

-- those of the new tables, by the old counts
pub new-within : (m : Tables) (x : Lent) (m' : Tables) → Priced m x m' → Within max_reward (m.actions * m.states) m'.reward
new-within m x m' p =
    let e = p.same in
    let count : m'.actions * m'.states ≡ m.actions * m.states =
    ap (λ (k : ℕ). k * m'.states) e.actions_same ∙ ap (λ (k : ℕ). m.actions * k) e.states_same in
    subst (λ (k : ℕ). Within max_reward k m'.reward) count (rewards-within m' p.valid p.stored)

pub change-few : (count : ℕ) (R R' : List ℤ) → Within max_reward count R → Within max_reward count R' → largest_to count (change_at R R') ≤ 2 * max_reward
change-few count R R' h h' =
    largest-ind (λ z. z ≤ 2 * max_reward) count (change_at R R') (omega arith)
    (λ i l. omega (arith, abs-sub (get_or R' i (pos 0)) (get_or R i (pos 0)), h.within i l, h'.within i l))

-- ---- the level that stands, as it is read from the slices
module _ (m : Tables) (x : Lent) (h : Held max_vectors m x) {s : Standing} (e : s ≡ standing_at x.state) where
  pub levels-few : s.number ≤ max_levels
  levels-few = rw e h.few-levels

  pub move-few : {d : ℕ} → d ≤ 2 * max_reward → d * s.number ≤ max_move
  move-few {d} few = omega (arith, mul-le-mul few levels-few)

  module _ {limit : ℕ} (el : limit ≡ range s.number) where
    pub limit-few : limit ≤ max_entry
    unfolding range
    limit-few = rw el (omega (arith, levels-few))

    pub vectors-ask : Vectors m.states s.vectors limit x.cells.masks x.cells.entries
    vectors-ask = rw (el, e) record {
      some_states = h.valid-tables.some_states;
      few_states = h.valid-tables.few_states;
      few_vectors = h.shaped.few_vectors;
      masks_long = h.read.masks;
      entries_long = h.read.entries;
      entry = h.shaped.entry_fits;
    }

    pub corners-ask : Within limit m.states x.cells.corners
    corners-ask = rw (el, e) record { long = h.read.corners; within = h.shaped.corner_fits }

    pub points-ask : PricedPoints m.states s.points limit x.cells.weights x.cells.values
    points-ask = rw (el, e) record {
      few_states = h.valid-tables.few_states;
      few_points = h.shaped.few_points;
      weights_long = h.read.weights;
      values_long = h.read.values;
      total = λ i l. (h.shaped.total i l).1;
      value = h.shaped.value_fits;
    }

    pub informed-ask : Within limit (m.actions * m.states) x.rows.informed
    informed-ask = rw (el, e) (within-rows m.actions m.states (range (number_in x)) x.rows.informed h.valid-tables.some_states
        h.informed.long h.informed.entry)

    pub qmdp-ask : Within limit (m.actions * m.states) x.rows.qmdp
    qmdp-ask = rw (el, e) (within-rows m.actions m.states (range (number_in x)) x.rows.qmdp h.valid-tables.some_states
        h.qmdp.long h.qmdp.entry)

-- ---- what is left
masked : (b : Bool) (limit k : ℕ) (e : ℤ) → cond b (fallen limit e k) e ≡ cond b (cond b (fallen limit (cond b e (pos 0)) k) (cond b e (pos 0))) e
masked true limit k e = refl
masked false limit k e = refl

module _ (m : Tables) (x : Lent) (m' : Tables) where
  pub priced-refused : {e : Refusal} → Err e ≡ prices_verdict m x m' → x ≡ priced_of m x m'
  unfolding priced_of
  priced-refused h = rw (sym h)

  -- Entries at covered states, corners and values are laid as the level's are that was moved; rows are laid cell by cell. Qed.
  pub priced-fine : prices_verdict m x m' ≡ Fine → {s : Standing} → s ≡ standing_at x.state → {limit d : ℕ} → limit ≡ range s.number
      → d ≡ change (model_of m) (model_of m') → {entries corners values informed qmdp : List ℤ}
      → entries ≡ laid_rows s.vectors m.states (lowered_in m.states limit (d * s.number) x.cells.masks x.cells.entries) x.cells.entries
      → corners ≡ laid m.states (raised_in limit (d * s.number) x.cells.corners) x.cells.corners
      → values ≡ laid s.points (value_in m.states limit (d * s.number) x.cells.weights x.cells.values) x.cells.values
      → informed ≡ laid (m.actions * m.states) (raised_in limit (d * s.number) x.rows.informed) x.rows.informed
      → qmdp ≡ laid (m.actions * m.states) (raised_in limit (d * s.number) x.rows.qmdp) x.rows.qmdp
      → lent x.state (cells x.cells.actions x.cells.choices x.cells.masks entries corners x.cells.weights values) (rows informed qmdp)
      ≡ priced_of m x m'
  unfolding priced_of over_numbers repriced raised_rows
  priced-fine fine e el ed entries corners values informed qmdp = rw fine (lent_same refl (same_cells refl refl refl
      (rw (el, ed, e) at entries ∙ laid_rows-cong (standing_in x).vectors m.states _ _ x.cells.entries
      (λ i l s b. masked (covered_in x.cells.masks i s) (range (number_in x)) k (entry_in m.states x.cells.entries i s)))
      (rw (el, ed, e) at corners) refl (rw (el, ed, e) at values)) (rw (el, ed, e) at informed ∙ row x.rows.informed)
      (rw (el, ed, e) at qmdp ∙ row x.rows.qmdp))
    where
      k : ℕ
      k = change (model_of m) (model_of m') * number_in x

      row : (xs : List ℤ) → laid (m.actions * m.states) (raised_in (range (number_in x)) k xs) xs
          ≡ laid_rows m.actions m.states (λ a s. raised_in (range (number_in x)) k xs (a * m.states + s)) xs
      row xs = sym (rows-laid m.actions m.states (raised_in (range (number_in x)) k xs) xs)
