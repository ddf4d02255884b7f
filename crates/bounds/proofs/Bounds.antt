-- Laws of the totals of a certifier that is not refused by 7: what is known of its parts, how large the totals are, and that they read weights of states only.
-- Assumes nothing.
--
-- In order: the answer over storage; the totals read weights of states only; a mixture; an answer: its action exists or is 0, and its totals fit 64 bits;
-- a certifier that is not refused by 7; each way out of totals.
use Rattle.std.specs.Prelude.{Result, Ok, Err}
use Rattle.integers.proofs.Kit.{◌≡◌, ◌∙◌, refl, ap, true, false, Bool, List, ℕ, ◌≤◌, ◌<◌, ◌+◌, ◌*◌, ◌^◌, arith, leb-true, leb, ltb, length, get_or}
use Rattle.integers.proofs.Kit.{◌||◌, suc, zero, eqb, lt-ltb, ne_eqb, ℤ, nat_abs, ◌-ℤ◌}
use mathlib.Core.Bool.{not}
use native.Mathlib.Nat as NatL
use Rattle.integers.specs.Whole.{total_to, lesser, Below}
use Rattle.integers.specs.Search.{every}
use Rattle.integers.specs.Cells.{padded}
use Rattle.integers.proofs.Order.{lesser-by}
use Rattle.integers.proofs.Lists.{padded-at, padded-length}
use Rattle.integers.proofs.Searches.{and-true, every-at, every-cong, some-cong, of-in, of_some, of-cong}
use Rattle.integers.proofs.Sizes.{times-bound, sum-weighed}
use Rattle.integers.proofs.Sums.{total-bound}
use Rattle.tables.specs.Tables.{Tables}
use Rattle.refusals.specs.declared.Refusal.{Refusal}
use Rattle.refusals.specs.Verdicts.{Fine}
use Rattle.tables.specs.Limits.{max_vectors, max_states, max_actions, max_weight, max_entry, max_levels}
use Rattle.tables.specs.Model.{Model}
use Rattle.tables.specs.Storage.{weight_in, counts_of, model_of}
use Rattle.tables.specs.Steps.{EntriesFit}
use Rattle.tables.proofs.Fitting.{row-alone}
use Rattle.refusals.proofs.Refusals.{before-fine, unless-fine}
use Rattle.masks.specs.Masks.{covered, covered_in}
use Rattle.masks.specs.Steps.{includes, some_includes}
use Rattle.masks.proofs.Bits.{mask-covers, includes-covers, includes-every}
use Rattle.plans.specs.Limits.{max_points, range, max_reached}
use Rattle.plans.specs.Level.{Level, counts, product, gain, ceiling, Shaped}
use Rattle.plans.specs.Rows.{best_row}
use Rattle.plans.specs.Totals.{some_counts, best, lower, upper, advice}
use Rattle.plans.proofs.Agreement.{product-cong, ceiling-weights, best-exists}
use Rattle.plans.proofs.Rows.{highest-cong, best_row-range}
use Rattle.plans.proofs.Built.{ceiling-range, range-limit, shaped-mono}
use Rattle.levels.specs.Storage.{Lent, level_of, point_in, number_in, standing_in, informed_in}
use Rattle.levels.specs.Judged.{holds}
use Rattle.sawtooth.specs.Steps.{positive, gain_in, ceiling_in}
use Rattle.sawtooth.proofs.Joined.{ceiling-is}
use Rattle.backups.specs.Steps.{Roofed}
use Rattle.backups.proofs.Lent.{entries-lent, roof-lent}
use Rattle.backups.proofs.Roofs.{corners_fit, points_fit, gains-below}
use Rattle.runs.specs.declared.Bounds.{Bounds}
use Rattle.runs.specs.State.{mixture_holds, totals_verdict, bounds_by, numbers_of, totals_of, standing_verdict}
use Rattle.runs.proofs.Judged.{Held, standing-true}
use Rattle.bounds.specs.Steps.{support_in, best_in, lower_in, best_informed_in, upper_in, bounds_in, widened, answered_if, answer_in, Asked}

product-range : (n r : ℕ) (q : ℕ → ℕ) (e : ℕ → ℤ) → ((s : ℕ) → s < n → nat_abs (e s) ≤ r) → nat_abs (product n q e) ≤ total_to n q * r
unfolding product
product-range n r q e h = sum-weighed n r q _ (λ s l. times-bound (q s) (e s) (NatL.le_refl (q s)) (h s l))

-- ---- the answer over storage
-- states with a weight above 0 are those of the support
-- the first of the largest is among those below
pub ruleset among = (of-in)

pub support-covers : (n : ℕ) (q : List ℕ) (s : ℕ) → s < n → 0 < weight_in q s → covered (support_in n q) s ≡ true
support-covers n q s l above = mask-covers n (λ s. ltb 0 (weight_in q s)) s l ∙ lt-ltb 0 (weight_in q s) above

pub best-below : {vectors i : ℕ} (n : ℕ) (masks : List ℕ) (entries : List ℤ) (q : List ℕ) → 0 < vectors → i ≡ best_in n vectors masks entries q → i < vectors
best-below n masks entries q some e = rw e (of-in _ _ _ some)

-- the best vector counts, where some vector does: it covers each state with a weight above 0
pub best-covers : (n vectors : ℕ) (masks : List ℕ) (entries : List ℤ) (q : List ℕ) {i : ℕ} → some_includes masks vectors (support_in n q) ≡ true
    → i ≡ best_in n vectors masks entries q → (s : ℕ) → s < n → 0 < weight_in q s → covered_in masks i s ≡ true
best-covers n vectors masks entries q some e s l above =
    rw e (includes-covers _ (support_in n q) s (of_some _ _ _ some) (support-covers n q s l above))

-- by its parts
pub bounds-by : (n m vectors points : ℕ) (actions masks : List ℕ) (entries corners : List ℤ) (weights : List ℕ) (informed : List ℤ) (gains q : List ℕ)
    {i a : ℕ} {x y z saw row : ℤ} → i ≡ best_in n vectors masks entries q → x ≡ lower_in n vectors masks entries q
    → saw ≡ ceiling_in n corners weights gains points q → row ≡ best_informed_in n m informed q → y ≡ lesser saw row → z ≡ y -ℤ x → a ≡ get_or actions i 0
    → ◌≡◌ {A = Bounds} record { lower = x; upper = y; gap = z; action = record { 0 = a }; sawtooth = saw; informed = row }
    (bounds_in n m vectors points actions masks entries corners weights informed gains q)
bounds-by n m vectors points actions masks entries corners weights informed gains q e low high best both gap action = rw (action, gap, both, low, high, best, e)

-- ---- the totals read weights of states only
module _ (M : Model) (L : Level) (b b' : ℕ → ℕ) (same : (s : ℕ) → s < M.states → b s ≡ b' s) where
  row-weights : 0 < M.actions → (F : ℕ → ℕ → ℤ) → best_row M F b ≡ best_row M F b'
  unfolding best_row
  row-weights some F = highest-cong M.actions _ _ some (λ a l. product-cong M.states b b' (F a) (F a) same (λ s k. refl))

  upper-weights : 0 < M.actions → (F : ℕ → ℕ → ℤ) → upper M L F b ≡ upper M L F b'
  unfolding upper
  upper-weights some F = rw (ceiling-weights M.states L b b' same, row-weights some F)

  pub counts-weights : (v : ℕ) → counts M.states L b v ≡ counts M.states L b' v
  unfolding counts
  counts-weights v = every-cong M.states _ _ (λ s l. ap (λ (x : ℕ). eqb x 0 || L.covers v s) (same s l))

  pub some-counts-weights : some_counts M L b ≡ some_counts M L b'
  some-counts-weights = some-cong L.vectors _ _ (λ v l. counts-weights v)

  module _ (some : 0 < L.vectors) where
    best-weights : best M L b ≡ best M L b'
    unfolding best
    best-weights =
        of-cong L.vectors _ _ _ _ some (λ v l. counts-weights v)
        (λ v l c. product-cong M.states b b' (L.entry v) (L.entry v) same (λ s k. refl))

    lower-weights : lower M L b ≡ lower M L b'
    unfolding lower
    lower-weights = rw best-weights (product-cong M.states b b' _ _ same (λ s k. refl))

    advice-weights : advice M L b ≡ advice M L b'
    unfolding advice
    advice-weights = ap L.action best-weights

-- ---- a mixture
-- a weight is above 0 or is 0
above-0 : (x : ℕ) → not (ltb 0 x) ≡ eqb x 0
above-0 zero = refl
above-0 (suc x) = rw (lt-ltb 0 (suc x) (omega arith), ne_eqb (suc x) 0 (λ e. omega arith))

pub widened-at : {n : ℕ} (b : List ℕ) (s : ℕ) → s < n → weight_in (widened n b) s ≡ weight_in b s
widened-at {n} b s l = padded-at 0 max_states n (point_in n b 0) s 0 l ∙ ap (λ (i : ℕ). get_or b i 0) (row-alone n s)

-- what 17 tests
pub record Mixed (n : ℕ) (b : List ℕ) : Type 0 where
  pub long : n ≤ length b
  pub small : (s : ℕ) → s < n → weight_in b s ≤ max_weight

pub mixed : (n : ℕ) (b : List ℕ) → mixture_holds n b ≡ true → Mixed n b
mixed n b h =
    let e = and-true (leb n (length b)) _ h in
    let w = and-true (every n (λ s. leb (weight_in b s) max_weight)) _ e.1 in
    record { long = leb-true _ _ e.0; small = λ s l. leb-true _ _ (every-at n _ w.0 s l) }

pub widened-long : (n : ℕ) (b : List ℕ) → n ≤ max_states → length (widened n b) ≡ max_states
widened-long n b few = padded-length 0 max_states n (point_in n b 0) few

pub widened-below : {n : ℕ} {b : List ℕ} → n ≤ max_states → Mixed n b → Below max_weight n (widened n b)
widened-below {n} {b} few h = record {
  long = rw (widened-long n b few) few;
  below = λ s l. rw (widened-at b s l) (h.small s l);
}

pub below-reached : {n : ℕ} {q : List ℕ} → Below max_weight n q → Below max_reached n q
below-reached b = record { long = b.long; below = λ s l. omega (arith, b.below s l) }

-- ---- an answer: its action exists or is 0, and its totals fit 64 bits
module _ {n m vectors points : ℕ} {actions masks : List ℕ} {entries corners : List ℤ} {weights : List ℕ} {informed : List ℤ} {gains : List ℕ}
    (h : Asked n m vectors points actions masks entries corners weights informed gains) (b : List ℕ) where
  abbrev r : Bounds
  r = numbers_of (answer_in n m vectors points actions masks entries corners weights informed gains b)

  abbrev counted : Bool
  counted = some_includes masks vectors (support_in n (widened n b))

  abbrev by-17 : Bool → Bool → Bounds
  by-17 held some =
      numbers_of (answered_if held 17 (answered_if some 22
      (Ok (bounds_in n m vectors points actions masks entries corners weights informed gains (widened n b)))))

  pub acts-within : r.action.0 < max_actions
  acts-within = by (mixture_holds n b) counted
    where
      by : (held some : Bool) → (by-17 held some).action.0 < max_actions
      by true true = h.acts _ (of-in _ _ _ h.some_vectors)
      by true false = omega arith
      by false some = omega arith

  pub sizes-within : (nat_abs r.lower < 2 ^ 63) × (nat_abs r.upper < 2 ^ 63)
  sizes-within = by (mixture_holds n b) refl counted
    where
      by : (held : Bool) → mixture_holds n b ≡ held → (some : Bool)
          → (nat_abs (by-17 held some).lower < 2 ^ 63) × (nat_abs (by-17 held some).upper < 2 ^ 63)
      by true e true = let f = h.fits (widened n b) (widened-below h.few_states (mixed n b e)) in (omega (arith, f), omega (arith, f))
      by true e false = (omega arith, omega arith)
      by false e some = (omega arith, omega arith)

-- ---- a certifier that is not refused by 7
-- the gains of the standing level, as the code lists them
abbrev pub Gained : Tables → Lent → List ℕ → Type 0
Gained m x gains =
    gains ≡ padded 0 max_points (standing_in x).points
    (λ i. positive (gain_in m.states x.cells.corners x.cells.weights x.cells.values i))

module _ (m : Tables) (x : Lent) (h : holds m x ≡ true) where
  abbrev M : Model
  M = model_of m

  abbrev L : Level
  L = level_of m (standing_in x)

  abbrev F : ℕ → ℕ → ℤ
  F = informed_in m x

  pub stands : Held max_vectors m x
  stands = standing-true max_vectors m x h

  some_vectors : 0 < L.vectors
  some_vectors = stands.shaped.some_vectors

  -- the level is within the limits of the hundredth
  full : Shaped M max_levels L
  full = shaped-mono M L (number_in x) max_levels stands.few-levels stands.shaped

  pub roofed : Roofed (counts_of m) m.transition m.observation m.reward x.cells.corners (standing_in x).points x.cells.weights
      x.cells.values
  roofed = roof-lent m (standing_in x) stands.valid-tables stands.stored-tables stands.read full

  -- how large the totals are
  module _ {q : List ℕ} (b : Below max_weight m.states q) where
    total-limit : total_to m.states (weight_in q) ≤ max_states * max_weight
    total-limit = omega (arith, stands.valid-tables.few_states, total-bound m.states max_weight (weight_in q) b.below)

    -- of the lower and of the upper
    size-limit : total_to m.states (weight_in q) * range (number_in x) ≤ max_states * max_weight * max_entry
    size-limit = NatL.mul-le-mul total-limit (range-limit (number_in x) stands.few-levels)

    upper-fit : nat_abs (upper M L F (weight_in q)) ≤ max_states * max_weight * max_entry
    unfolding upper
    upper-fit =
        lesser-by (λ z. nat_abs z ≤ max_states * max_weight * max_entry) _ _
        (λ _. omega (arith, size-limit, ceiling-range M L (number_in x) stands.shaped (weight_in q)))
        (λ _. omega (arith, size-limit, best_row-range M (range (number_in x)) F stands.valid-tables.some_actions stands.informed.entry (weight_in q)))

    totals-fit : nat_abs (upper M L F (weight_in q)) + nat_abs (lower M L (weight_in q)) < 2 ^ 63
    unfolding lower
    totals-fit =
        let v = best M L (weight_in q) in
        omega (
          arith,
          size-limit,
          upper-fit,
          product-range m.states (range (number_in x)) (weight_in q) (L.entry v)
              (stands.shaped.entry_fits v (best-exists M L (weight_in q) some_vectors)),
        )

  -- a mask has the states with a weight above 0, exactly where its vector counts
  pub counts-is : (q : List ℕ) (v : ℕ) → includes (get_or x.cells.masks v 0) (support_in m.states q) ≡ counts m.states L (weight_in q) v
  unfolding counts
  counts-is q v =
      includes-every m.states (get_or x.cells.masks v 0) (λ s. ltb 0 (weight_in q s))
      ∙ every-cong m.states _ _ (λ s l. ap (λ (b : Bool). b || covered_in x.cells.masks v s) (above-0 (weight_in q s)))

  pub some_is : (q : List ℕ) → some_includes x.cells.masks (standing_in x).vectors (support_in m.states q) ≡ some_counts M L (weight_in q)
  some_is q = some-cong L.vectors _ _ (λ v l. counts-is q v)

  best-is : (q : List ℕ) → best_in m.states (standing_in x).vectors x.cells.masks x.cells.entries q ≡ best M L (weight_in q)
  unfolding best
  best-is q = of-cong L.vectors _ _ _ _ some_vectors (λ v l. counts-is q v) (λ v l c. refl)

  module _ {gains : List ℕ} (e : Gained m x gains) where
    gains-at : (i : ℕ) → i < (standing_in x).points
        → get_or gains i 0 ≡ positive (gain_in m.states x.cells.corners x.cells.weights x.cells.values i)
    gains-at i l = rw e (padded-at 0 max_points (standing_in x).points _ i 0 l)

    pub gains-long : length gains ≡ max_points
    gains-long = rw e (padded-length 0 max_points _ _ full.few_points)

    sawtooth_is : (q : List ℕ)
        → ceiling_in m.states x.cells.corners x.cells.weights gains (standing_in x).points q ≡ ceiling m.states L (weight_in q)
    unfolding ceiling gain
    sawtooth_is q = ceiling-is m.states x.cells.corners (standing_in x).points x.cells.weights x.cells.values gains q gains-at

    lower_is : (q : List ℕ) → lower_in m.states (standing_in x).vectors x.cells.masks x.cells.entries q ≡ lower M L (weight_in q)
    unfolding lower
    lower_is q = ap (λ (v : ℕ). product m.states (weight_in q) (L.entry v)) (best-is q)

    row_is : (q : List ℕ) → best_informed_in m.states m.actions x.rows.informed q ≡ best_row M F (weight_in q)
    unfolding best_row
    row_is q = refl

    upper_is : (q : List ℕ) → upper_in m.states m.actions (standing_in x).points x.cells.corners x.cells.weights x.rows.informed gains q
        ≡ upper M L F (weight_in q)
    unfolding upper
    upper_is q = rw (sawtooth_is q, row_is q)

    rows_fit : EntriesFit m.states m.actions x.rows.informed
    rows_fit = record {
      few = omega (arith, stands.valid-tables.few_actions);
      stored = stands.informed.long;
      entry = λ a l s b. NatL.le_trans (stands.informed.entry a l s b) (range-limit (number_in x) stands.few-levels);
    }

    -- what is lent to an answer
    pub asked : Asked m.states m.actions (standing_in x).vectors (standing_in x).points x.cells.actions x.cells.masks x.cells.entries
        x.cells.corners x.cells.weights x.rows.informed gains
    asked = record {
      few_states = stands.valid-tables.few_states;
      some_actions = stands.valid-tables.some_actions;
      rows_fit = rows_fit;
      some_vectors = some_vectors;
      actions_long = stands.read.actions;
      acts = λ v l. omega (arith, full.action_in v l, stands.valid-tables.few_actions);
      entries_fit = entries-lent m (standing_in x) stands.valid-tables stands.stored-tables stands.read full;
      corners_fit = corners_fit roofed;
      points_fit = points_fit roofed;
      gains_fit = gains-below roofed e;
      fits = λ q b. rw (upper_is q, lower_is q) (totals-fit b);
    }

    -- the answer is that of the standing level
    bounds-are : (q : List ℕ) → bounds_in m.states m.actions (standing_in x).vectors (standing_in x).points x.cells.actions x.cells.masks
        x.cells.entries x.cells.corners x.cells.weights x.rows.informed gains q ≡ numbers_of (bounds_by Fine M L F (weight_in q))
    unfolding advice
    bounds-are q = rw (upper_is q, sawtooth_is q, row_is q, lower_is q, best-is q)

    bounds-widened : (b : List ℕ) → bounds_by Fine M L F (weight_in (widened m.states b)) ≡ bounds_by Fine M L F (weight_in b)
    bounds-widened b =
        let same = widened-at b in
        let some = stands.valid-tables.some_actions in
        let q = weight_in (widened m.states b) in
        rw (
          lower-weights M L q (weight_in b) same some_vectors,
          upper-weights M L q (weight_in b) same some F,
          ceiling-weights m.states L q (weight_in b) same,
          row-weights M L q (weight_in b) same some F,
          advice-weights M L q (weight_in b) same some_vectors,
        )

-- ---- each way out of totals
module _ (m : Tables) (x : Lent) where
  pub standing-holds : standing_verdict m x ≡ Fine → holds m x ≡ true
  unfolding standing_verdict
  standing-holds e = unless-fine _ 7 0 (before-fine _ _ e).0

  module _ (b : List ℕ) where
    abbrev some-counts : Bool
    some-counts = some_counts (model_of m) (level_of m (standing_in x)) (weight_in b)

    pub refused : {e : Refusal} → standing_verdict m x ≡ Err e → totals_of m x b ≡ Err e
    unfolding totals_of totals_verdict
    refused e = rw e

    -- 17, 22, or the totals
    at-mixture : (held : Bool) → mixture_holds m.states b ≡ held → (some : Bool) → some-counts ≡ some → standing_verdict m x ≡ Fine
        → answered_if held 17 (answered_if some 22 (bounds_by Fine (model_of m) (level_of m (standing_in x)) (informed_in m x) (weight_in b))) ≡ totals_of m x b
    unfolding totals_of totals_verdict
    at-mixture true f true g s = rw (s, f, g)
    at-mixture true f false g s = rw (s, f, g)
    at-mixture false f some g s = rw (s, f)

    pub answered : {gains : List ℕ} → standing_verdict m x ≡ Fine → Gained m x gains
        → answer_in m.states m.actions (standing_in x).vectors (standing_in x).points x.cells.actions x.cells.masks x.cells.entries
        x.cells.corners x.cells.weights x.rows.informed gains b
        ≡ totals_of m x b
    answered s g =
        let h = standing-holds s in
        let counted = some_is m x h (widened m.states b)
        ∙ some-counts-weights (model_of m) (level_of m (standing_in x)) (weight_in (widened m.states b)) (weight_in b) (widened-at b) in
        rw counted (ap (λ (a : Result Bounds Refusal). answered_if (mixture_holds m.states b) 17 (answered_if some-counts 22 a))
        (ap Ok (bounds-are m x h g (widened m.states b)) ∙ bounds-widened m x h g b))
        ∙ at-mixture (mixture_holds m.states b) refl some-counts refl s
