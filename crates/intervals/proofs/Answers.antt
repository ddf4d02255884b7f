-- Laws of the answer of a certifier that is not refused by 7: ranges that hold are within the limits, and what is worked out over storage is what the
-- standing level says. Assumes nothing.
--
-- In order: ranges that hold; a certifier that is not refused by 7; each way out.
use Rattle.std.specs.Prelude.{Ok, Err}
use Rattle.integers.proofs.Kit.{◌≡◌, ◌∙◌, refl, ap, sym, true, false, Bool, List, ℕ, ◌≤◌, ◌<◌, leb-true, leb, length, get_or, ℤ}
use native.Mathlib.Nat as NatL
use Rattle.integers.proofs.Searches.{and-true, every-at, of-cong}
use Rattle.tables.specs.Tables.{Tables}
use Rattle.refusals.specs.declared.Refusal.{Refusal}
use Rattle.refusals.specs.Verdicts.{Fine}
use Rattle.tables.specs.Limits.{max_states, max_levels}
use Rattle.tables.specs.Model.{Model}
use Rattle.tables.specs.Storage.{weight_in, model_of}
use Rattle.masks.specs.Steps.{includes, some_includes}
use Rattle.plans.specs.Level.{Level, counts}
use Rattle.plans.specs.Totals.{some_counts}
use Rattle.plans.specs.Intervals.{surest, lower_within, upper_within, least_product}
use Rattle.plans.proofs.Intervals.{most-least, least-cong}
use Rattle.plans.proofs.Built.{shaped-mono}
use Rattle.levels.specs.Storage.{Lent, level_of, standing_in, number_in}
use Rattle.levels.specs.Judged.{holds}
use Rattle.backups.proofs.Lent.{entries-lent}
use Rattle.backups.proofs.Roofs.{corners_fit}
use Rattle.runs.specs.State.{standing_verdict}
use Rattle.bounds.specs.Steps.{support_in, widened}
use Rattle.bounds.proofs.Bounds.{counts-weights, some-counts-weights, Mixed, mixed, widened-at, widened-below}
use Rattle.bounds.proofs.Bounds.{stands, roofed, counts-is, some_is, standing-holds}
use Rattle.intervals.specs.declared.Enclosing.{Enclosing}
use Rattle.intervals.specs.Intervals.{ranges_hold, highs_hold, within_verdict, within_by, within_of}
use Rattle.intervals.specs.Steps.{Ranged, least_in, lower_in_ranges, upper_in_ranges, totals_in, given_if, answer_within, AskedWithin}

-- ---- ranges that hold
module _ (n : ℕ) (lows highs : List ℕ) (ordered : ranges_hold n lows highs ≡ true) (limits : highs_hold n lows highs ≡ true) where
  low-high : (s : ℕ) → s < n → weight_in lows s ≤ weight_in highs s
  low-high s l = leb-true _ _ (every-at n _ ordered s l)

  pub highs-mixed : Mixed n highs
  highs-mixed = mixed n highs (and-true (leb n (length lows)) _ limits).1

  pub lows-mixed : Mixed n lows
  lows-mixed = record {
    long = leb-true _ _ (and-true (leb n (length lows)) _ limits).0;
    small = λ s l. NatL.le_trans (low-high s l) (highs-mixed.small s l);
  }

  pub ranged : {low high : List ℕ} → n ≤ max_states → low ≡ widened n lows → high ≡ widened n highs → Ranged n low high
  ranged few e f = rw (e, f) record {
    lows_fit = widened-below few lows-mixed;
    highs_fit = widened-below few highs-mixed;
    ordered = λ s l. rw (widened-at lows s l, widened-at highs s l) (low-high s l);
  }

  -- where a vector counts at the highs, the answer is the totals
  pub totals-given : (vectors : ℕ) (masks : List ℕ) (entries corners : List ℤ) {low high : List ℕ} {states : ℕ} {r : Enclosing}
      → r ≡ totals_in n vectors masks entries corners low high states → low ≡ widened n lows → high ≡ widened n highs
      → states ≡ support_in n (widened n highs) → some_includes masks vectors (support_in n (widened n highs)) ≡ true
      → Ok r ≡ answer_within n vectors masks entries corners lows highs
  totals-given vectors masks entries corners e f g k some = rw (e, f, g, k, ordered, limits, some) refl

-- ---- a certifier that is not refused by 7
module _ (m : Tables) (x : Lent) (h : holds m x ≡ true) where
  abbrev M : Model
  M = model_of m

  abbrev L : Level
  L = level_of m (standing_in x)

  pub asked : AskedWithin m.states (standing_in x).vectors x.cells.masks x.cells.entries x.cells.corners
  asked =
      let s = stands m x h in
      record {
        few_states = s.valid-tables.few_states;
        some_vectors = s.shaped.some_vectors;
        entries_fit = entries-lent m (standing_in x) s.valid-tables s.stored-tables s.read
            (shaped-mono M L (number_in x) max_levels s.few-levels s.shaped);
        corners_fit = corners_fit (roofed m x h);
      }

  module _ (lows highs : List ℕ) where
    abbrev states : ℕ
    states = support_in m.states (widened m.states highs)

    -- a mask has the states with a high above 0, exactly where its vector counts at the highs
    counts-high : (v : ℕ) → includes (get_or x.cells.masks v 0) states ≡ counts m.states L (weight_in highs) v
    counts-high v =
        counts-is m x h (widened m.states highs) v
        ∙ counts-weights M L (weight_in (widened m.states highs)) (weight_in highs) (widened-at highs) v

    some-high : some_includes x.cells.masks (standing_in x).vectors states ≡ some_counts M L (weight_in highs)
    some-high =
        some_is m x h (widened m.states highs)
        ∙ some-counts-weights M L (weight_in (widened m.states highs)) (weight_in highs) (widened-at highs)

    least-is : (v : ℕ) → least_in m.states x.cells.masks x.cells.entries (widened m.states lows) (widened m.states highs) v
        ≡ least_product m.states (weight_in lows) (weight_in highs) (L.entry v)
    least-is v = least-cong m.states _ _ (weight_in lows) (weight_in highs) (L.entry v) (L.entry v) (widened-at lows) (widened-at highs) (λ s l. refl)

    lower_is : lower_in_ranges m.states (standing_in x).vectors x.cells.masks x.cells.entries
        (widened m.states lows) (widened m.states highs) states
        ≡ lower_within M L (weight_in lows) (weight_in highs)
    unfolding lower_within surest
    lower_is =
        least-is _ ∙ ap (λ (v : ℕ). least_product m.states (weight_in lows) (weight_in highs) (L.entry v))
        (of-cong L.vectors _ _ _ _ (stands m x h).shaped.some_vectors (λ v l. counts-high v) (λ v l c. least-is v))

    upper_is : upper_in_ranges m.states x.cells.corners (widened m.states lows) (widened m.states highs)
        ≡ upper_within M L (weight_in lows) (weight_in highs)
    unfolding upper_within
    upper_is =
        least-cong m.states _ _ (weight_in highs) (weight_in lows) L.corner L.corner (widened-at highs) (widened-at lows) (λ s l. refl)
        ∙ sym (most-least m.states (weight_in lows) (weight_in highs) L.corner)

-- ---- each way out
module _ (m : Tables) (x : Lent) (lows highs : List ℕ) where
  pub refused : {e : Refusal} → standing_verdict m x ≡ Err e → within_of m x lows highs ≡ Err e
  unfolding within_of within_verdict
  refused e = rw e

  -- 24, 17, 22, or the totals
  by_tests : (ordered : Bool) → ranges_hold m.states lows highs ≡ ordered → (limits : Bool) → highs_hold m.states lows highs ≡ limits
      → (some : Bool) → some_counts (model_of m) (level_of m (standing_in x)) (weight_in highs) ≡ some → standing_verdict m x ≡ Fine
      → given_if ordered 24 (given_if limits 17 (given_if some 22
      (within_by Fine (model_of m) (level_of m (standing_in x)) (weight_in lows) (weight_in highs)))) ≡ within_of m x lows highs
  unfolding within_of within_verdict
  by_tests true e true f true g s = rw (s, e, f, g)
  by_tests true e true f false g s = rw (s, e, f, g)
  by_tests true e false f some g s = rw (s, e, f)
  by_tests false e limits f some g s = rw (s, e)

  pub answered : standing_verdict m x ≡ Fine
      → answer_within m.states (standing_in x).vectors x.cells.masks x.cells.entries x.cells.corners lows highs ≡ within_of m x lows highs
  answered s =
      let h = standing-holds m x s in
      rw (some-high m x h lows highs, lower_is m x h lows highs, upper_is m x h lows highs)
      (by_tests (ranges_hold m.states lows highs) refl (highs_hold m.states lows highs) refl
      (some_counts (model_of m) (level_of m (standing_in x)) (weight_in highs)) refl s)
