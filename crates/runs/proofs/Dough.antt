-- The dough model of document 01: its table D1 to D12, on the levels that the builder makes and the certifier accepts, with D10 as document 02's Job 6 has
-- it. The prover computes the definitions that the contracts name. Assumes nothing.
--
-- In order: the levels that are built, written out; D9, over all two-step plans; the table.
use Rattle.std.specs.Prelude.{Result, Ok, Err}
use Rattle.integers.proofs.Kit.{◌≡◌, refl, List, [], ◌∷◌, ℕ, ◌<◌, ◌+◌, ◌*◌, suc, zero, ◌^◌, arith, replicate, ℤ, pos, ◌+ℤ◌, negsuc, ◌≤ℤ◌}
use lib.IntN.{+ℤ_idr}
use lib.Signed.{le_z_yes}
use Rattle.integers.specs.Whole.{◌·◌, sum_to, total_to, largest_to, lesser, floor_div, ceil_div}
use Rattle.integers.specs.Search.{every, some, first_largest_of}
use Rattle.integers.specs.Cells.{listed, laid, laid_rows}
use Rattle.integers.proofs.Order.{·-zero}
use Rattle.integers.proofs.Sums.{sum-zero}
use Rattle.tables.specs.Tables.{Tables}
use Rattle.refusals.specs.declared.Refusal.{Refusal}
use Rattle.refusals.specs.Verdicts.{Fine, Refused, first_of}
use Rattle.tables.specs.Limits.{K}
use Rattle.tables.specs.Model.{Model, successor, expected_reward, backup, backed_up}
use Rattle.tables.specs.Storage.{weight_in, model_of}
use Rattle.tables.specs.Judged.{limits_hold, rows_total, tables_verdict}
use Rattle.masks.specs.Masks.{covered, mask_of}
use Rattle.plans.specs.Limits.{range}
use Rattle.plans.specs.Plan.{Plan, stop, step, Fits, earns, earns_at}
use Rattle.plans.specs.Level.{level0, covers_all, counts, product, joined, smallest, or_none, drop, gain, ceiling, backup_at, corner_weight, follows}
use Rattle.plans.specs.Rows.{highest, best_row, informed_backup, informed_next, qmdp_backup, qmdp_next}
use Rattle.plans.specs.Totals.{best, lower, upper, advice}
use Rattle.plans.specs.Build.{chosen, entry_for, best_action, least_for, least_value, seed, built}
use Rattle.levels.specs.Storage.{Cells, LentLevel, Rows, rows, Lent, level_of, corner_in, over}
use Rattle.levels.specs.Judged.{rows_within, values_within, ranges_verdict, weights_verdict, holds_up_to, numbers_in, floors_verdict, corners_verdict}
use Rattle.levels.specs.Judged.{points_verdict}
use Rattle.levels.specs.Judged.{masks_verdict, level_verdict, shape_up_to, backups_verdict, offer_up_to, offer_verdict}
use Rattle.runs.specs.declared.Bounds.{Bounds}
use Rattle.runs.specs.State.{open_verdict, opened, offered, standing_verdict, totals_verdict, totals_of, build_verdict, built_of}

-- T by a, s, s'; O by a, s', o; R by a, s
unfoldable pub dough : Tables
dough = record {
  states = 2;
  actions = 2;
  observations = 2;
  discount = 900;
  transition = 500 ∷ 500 ∷ 0 ∷ 1_000 ∷ 1_000 ∷ 0 ∷ 1_000 ∷ 0 ∷ [];
  observation = 800 ∷ 200 ∷ 300 ∷ 700 ∷ 500 ∷ 500 ∷ 500 ∷ 500 ∷ [];
  reward = negsuc 99 ∷ negsuc 99 ∷ negsuc 999 ∷ pos 600 ∷ [];
}

mixture : ℕ → ℕ → List ℕ
mixture x y = x ∷ y ∷ []

-- the mask of both states
abbrev pub all : ℕ
all = 3

-- slices with room for three vectors and one point, the first mask being this one
unfoldable pub slices : ℕ → List ℕ → Cells
slices mask weights = record {
  actions = replicate 3 0;
  choices = replicate 6 0;
  masks = mask ∷ 0 ∷ 0 ∷ [];
  entries = replicate 6 (pos 0);
  corners = replicate 2 (pos 0);
  weights = weights;
  values = replicate 1 (pos 0);
}

-- the informed and the QMDP rows of levels 0 to 3, written out
unfoldable pub rows_at : ℕ → Rows
rows_at zero = rows (replicate 4 (pos 0)) (replicate 4 (pos 0))
rows_at (suc zero) = rows (negsuc 99 ∷ negsuc 99 ∷ negsuc 999 ∷ pos 600 ∷ []) (negsuc 99 ∷ negsuc 99 ∷ negsuc 999 ∷ pos 600 ∷ [])
rows_at (suc (suc zero)) = rows (negsuc 49 ∷ pos 440 ∷ negsuc 1_089 ∷ pos 510 ∷ []) (pos 125 ∷ pos 440 ∷ negsuc 1_089 ∷ pos 510 ∷ [])
rows_at (suc (suc (suc t))) = rows (pos 76 ∷ pos 359 ∷ negsuc 1_044 ∷ pos 555 ∷ []) (pos 186 ∷ pos 359 ∷ negsuc 886 ∷ pos 713 ∷ [])

blank : Lent
blank = record { state = replicate 3 0; cells = slices 0 (replicate 2 0); rows = rows (replicate 4 (pos 1)) (replicate 4 (pos 1)) }

-- level 0, and the slices lent for a level that is built at the start numbers
unfoldable pub fresh : Lent
fresh = record { state = 0 ∷ 1 ∷ 0 ∷ []; cells = slices all (replicate 2 0); rows = rows_at 0 }

unfoldable pub half : Cells
half = slices 0 (50 ∷ 50 ∷ [])

-- ---- the levels that are built, written out
unfoldable pub one : Cells
one = record {
  actions = 0 ∷ 1 ∷ 0 ∷ [];
  choices = replicate 6 0;
  masks = replicate 3 all;
  entries = negsuc 99 ∷ negsuc 99 ∷ negsuc 999 ∷ pos 600 ∷ negsuc 99 ∷ negsuc 99 ∷ [];
  corners = negsuc 99 ∷ pos 600 ∷ [];
  weights = 50 ∷ 50 ∷ [];
  values = negsuc 9_999 ∷ [];
}

two : Cells
two = record {
  actions = 0 ∷ 1 ∷ 0 ∷ [];
  choices = 0 ∷ 1 ∷ 0 ∷ 0 ∷ 0 ∷ 1 ∷ [];
  masks = replicate 3 all;
  entries = negsuc 50 ∷ pos 251 ∷ negsuc 1_089 ∷ pos 510 ∷ negsuc 50 ∷ pos 251 ∷ [];
  corners = negsuc 31 ∷ pos 510 ∷ [];
  weights = 50 ∷ 50 ∷ [];
  values = pos 12_500 ∷ [];
}

three : Cells
three = record {
  actions = 0 ∷ 1 ∷ 0 ∷ [];
  choices = 0 ∷ 0 ∷ 0 ∷ 0 ∷ 0 ∷ 1 ∷ [];
  masks = replicate 3 all;
  entries = negsuc 9 ∷ pos 125 ∷ negsuc 1_045 ∷ pos 554 ∷ negsuc 21 ∷ pos 289 ∷ [];
  corners = pos 64 ∷ pos 572 ∷ [];
  weights = 50 ∷ 50 ∷ [];
  values = pos 18_575 ∷ [];
}

-- three vectors and one point, as a level that is offered and as the certifier that then stands
level : Cells → LentLevel
level x = record { vectors = 3; points = 1; cells = x }

unfoldable pub standing : ℕ → Cells → Lent
standing t x = record { state = t ∷ 3 ∷ 1 ∷ []; cells = x; rows = rows_at t }

-- the built level 2 with one vector alone, of action 0 and choices 0 and 1
alone : ℤ → ℤ → LentLevel
alone x y = record {
  vectors = 1;
  points = 1;
  cells = record {
    actions = 0 ∷ [];
    choices = 0 ∷ 1 ∷ [];
    masks = all ∷ [];
    entries = x ∷ y ∷ [];
    corners = two.corners;
    weights = two.weights;
    values = two.values;
  };
}

-- the built level 2 with another corner 0 and another point value
changed : ℤ → ℤ → Cells
changed corner value = record {
  actions = two.actions;
  choices = two.choices;
  masks = two.masks;
  entries = two.entries;
  corners = corner ∷ pos 510 ∷ [];
  weights = two.weights;
  values = value ∷ [];
}

-- the best of all t-step plans at a mixture: one earns n, times K^t, and none earns more
record BestIs (M : Model) (t : ℕ) (b : ℕ → ℕ) (n : ℤ) : Type 0 where
  plan : Plan t
  fits : Fits M plan
  earned : earns_at M plan b ≡ (K ^ t) · n
  most : (π : Plan t) → Fits M π → earns_at M π b ≤ℤ (K ^ t) · n

-- ---- D9, over all two-step plans

opening : Plan 1 → ℕ
opening (step a next) = a

earns-none : (M : Model) (π : Plan 0) (s : ℕ) → earns M π s ≡ pos 0
unfolding earns
earns-none M stop s = refl

earns-more : (M : Model) {t : ℕ} (a : ℕ) (next : ℕ → Plan t) (s : ℕ) → earns M (step a next) s
    ≡ (K ^ suc t) · M.reward s a
    +ℤ M.discount · sum_to M.states (λ s'. sum_to M.observations (λ o. (M.transition s a s' * M.observation a s' o) · earns M (next o) s'))
unfolding earns
earns-more M a next s = refl

-- a one-step plan earns its action's reward
earns-one : (M : Model) (π : Plan 1) (s : ℕ) → earns M π s ≡ (K ^ 1) · M.reward s (opening π)
unfolding opening
earns-one M (step a next) s = rw earns-more (simp (earns-none, ·-zero, sum-zero, +ℤ_idr))

-- what an action and then an action for each observation earn at (50, 50), times K^2
two_step_worth : ℕ → (ℕ → ℕ) → ℤ
two_step_worth a next = sum_to 2 (λ s. weight_in (mixture 50 50) s · ((K ^ 2) · (model_of dough).reward s a +ℤ 900 · sum_to 2 (λ s'. sum_to 2 (λ o.
    ((model_of dough).transition s a s' * (model_of dough).observation a s' o) · ((K ^ 1) · (model_of dough).reward s' (next o))))))

pair : ℕ → ℕ → ℕ → ℕ
pair x y zero = x
pair x y (suc o) = y

most : ℤ
most = (K ^ 2) · pos 10_025

below_two : (P : ℕ → Type 0) → P 0 → P 1 → (a : ℕ) → a < 2 → P a
below_two P p q zero l = p
below_two P p q (suc zero) l = q
below_two P p q (suc (suc a)) l = absurd (omega arith)

-- the eight plans one by one
two_step_worth-≤ : (a : ℕ) → a < 2 → (x : ℕ) → x < 2 → (y : ℕ) → y < 2 → two_step_worth a (pair x y) ≤ℤ most
unfolding two_step_worth pair most mixture dough sum_to ◌·◌ K
two_step_worth-≤ = below_two (λ a. (x : ℕ) → x < 2 → (y : ℕ) → y < 2 → two_step_worth a (pair x y) ≤ℤ most)
    (below_two (λ x. (y : ℕ) → y < 2 → two_step_worth 0 (pair x y) ≤ℤ most)
    (below_two (λ y. two_step_worth 0 (pair 0 y) ≤ℤ most) (le_z_yes tt) (le_z_yes tt))
    (below_two (λ y. two_step_worth 0 (pair 1 y) ≤ℤ most) (le_z_yes tt) (le_z_yes tt)))
    (below_two (λ x. (y : ℕ) → y < 2 → two_step_worth 1 (pair x y) ≤ℤ most)
    (below_two (λ y. two_step_worth 1 (pair 0 y) ≤ℤ most) (le_z_yes tt) (le_z_yes tt))
    (below_two (λ y. two_step_worth 1 (pair 1 y) ≤ℤ most) (le_z_yes tt) (le_z_yes tt)))

-- only the first two observations are read
two-steps-pair : (a : ℕ) (next : ℕ → ℕ) → two_step_worth a next ≡ two_step_worth a (pair (next 0) (next 1))
unfolding two_step_worth pair sum_to
two-steps-pair a next = refl

two-steps-earn : (a : ℕ) (next : ℕ → Plan 1) → earns_at (model_of dough) (step a next) (weight_in (mixture 50 50)) ≡ two_step_worth a (λ o. opening (next o))
unfolding earns_at two_step_worth dough
two-steps-earn a next = simp (earns-more, earns-one)

opening-fits : (M : Model) (π : Plan 1) → Fits M π → opening π < M.actions
unfolding opening Fits
opening-fits M (step a next) h = h.0

none_more : (π : Plan 2) → Fits (model_of dough) π → earns_at (model_of dough) π (weight_in (mixture 50 50)) ≤ℤ most
unfolding Fits dough
none_more (step a next) h =
    rw (two-steps-earn a next, two-steps-pair)
    (two_step_worth-≤ a h.0 (opening (next 0)) (opening-fits (model_of dough) (next 0) (h.1 0 (omega arith))) (opening (next 1))
    (opening-fits (model_of dough) (next 1) (h.1 1 (omega arith))))

-- action 0, then 0 or 1 as observed
best-of-two : BestIs (model_of dough) 2 (weight_in (mixture 50 50)) (pos 10_025)
unfolding Fits earns_at earns most dough mixture sum_to ◌·◌ K
best-of-two = record {
  plan = step 0 (λ o. step o (λ o'. stop));
  fits = (omega arith, λ o l. (l, λ o' l'. tt));
  earned = refl;
  most = none_more;
}

-- totals and action, then the two ceilings
abbrev pub given : ℤ → ℤ → ℤ → ℕ → ℤ → ℤ → Result Bounds Refusal
given low high apart a saw row =
    Ok (record { lower = low; upper = high; gap = apart; action = record { 0 = a }; sawtooth = saw; informed = row })

-- totals that are refused
abbrev pub refused : ℕ → Result Bounds Refusal
refused number = Err (record { 0 = number; 1 = 0 })

-- ---- the table
record Table : Type 0 where
  opens : (open_verdict dough blank ≡ Fine) × (opened dough blank ≡ fresh)
  one-built : (build_verdict dough fresh 1 half ≡ Fine) × (built_of dough fresh 1 half ≡ one)
  one-stands : (offer_verdict dough fresh (level one) ≡ Fine) × (offered dough fresh (level one) ≡ standing 1 one)
  two-built : (build_verdict dough (standing 1 one) 1 half ≡ Fine) × (built_of dough (standing 1 one) 1 half ≡ two)
  two-stands : (offer_verdict dough (standing 1 one) (level two) ≡ Fine) × (offered dough (standing 1 one) (level two) ≡ standing 2 two)
  three-built : (build_verdict dough (standing 2 two) 1 half ≡ Fine) × (built_of dough (standing 2 two) 1 half ≡ three)
  three-stands : (offer_verdict dough (standing 2 two) (level three) ≡ Fine) × (offered dough (standing 2 two) (level three) ≡ standing 3 three)
  -- what `ladder` prints
  line-1 : totals_of dough (standing 1 one) (mixture 50 50) ≡ given (negsuc 9_999) (negsuc 9_999) (pos 0) 0 (negsuc 9_999) (negsuc 9_999)
  line-2 : totals_of dough (standing 2 two) (mixture 50 50) ≡ given (pos 10_000) (pos 12_500) (pos 2_500) 0 (pos 12_500) (pos 19_500)
  line-3 : totals_of dough (standing 3 three) (mixture 50 50) ≡ given (pos 13_350) (pos 18_575) (pos 5_225) 0 (pos 18_575) (pos 21_750)
  d1 : (corner_in one.corners 0 ≡ negsuc 99) × (corner_in one.corners 1 ≡ pos 600)
  d2 : ceiling 2 (level_of dough (level one)) (λ s. corner_weight 0 s * 20_000_000 + corner_weight 1 s * 22_500_000) ≡ negsuc 2_499_999_999
  d3 : offer_verdict dough (standing 1 one) (alone (negsuc 50) (pos 251)) ≡ Fine
  d4 : (backup (model_of dough) 0 (follows (level_of dough (level one)) (pair 0 1)) 0 ≡ negsuc 50_499_999_999)
      × (offer_verdict dough (standing 1 one) (alone (negsuc 49) (pos 251)) ≡ Refused 13 0)
  d5 : (corner_in two.corners 0 ≡ negsuc 31) × (offer_verdict dough (standing 1 one) (level two) ≡ Fine)
  d6 : offer_verdict dough (standing 1 one) (level (changed (negsuc 32) (pos 12_500))) ≡ Refused 14 0
  d7 : (two ≡ changed (negsuc 31) (pos 12_500)) × (offer_verdict dough (standing 1 one) (level two) ≡ Fine)
  d8 : offer_verdict dough (standing 1 one) (level (changed (negsuc 31) (pos 12_499))) ≡ Refused 15 0
  d9 : BestIs (model_of dough) 2 (weight_in (mixture 50 50)) (pos 10_025)
  d10 : totals_of dough (standing 2 two) (mixture 1 0) ≡ given (negsuc 50) (negsuc 49) (pos 1) 0 (negsuc 31) (negsuc 49)
  d11 : totals_of dough (standing 2 two) (mixture 0 1) ≡ given (pos 510) (pos 510) (pos 0) 1 (pos 510) (pos 510)
  d12 : totals_of dough (standing 2 two) (mixture 0 0) ≡ refused 17

table : Table
unfolding dough slices rows_at blank fresh half one two three level standing alone changed mixture pair open_verdict opened offered offer_up_to shape_up_to
    level_verdict backups_verdict masks_verdict floors_verdict corners_verdict points_verdict numbers_in holds_up_to over level0 totals_of totals_verdict
    standing_verdict best lower upper advice built_of build_verdict tables_verdict limits_hold rows_total first_of every total_to ranges_verdict rows_within
    values_within weights_verdict range built seed best_action chosen entry_for least_value least_for first_largest_of product successor sum_to backed_up backup
    follows floor_div ceil_div backup_at expected_reward ceiling largest_to drop gain smallest joined or_none covers_all counts some covered mask_of
    corner_weight laid laid_rows listed lesser highest best_row informed_backup informed_next qmdp_backup qmdp_next ◌·◌ K
table = record {
  opens = (refl, refl);
  one-built = (refl, refl);
  one-stands = (refl, refl);
  two-built = (refl, refl);
  two-stands = (refl, refl);
  three-built = (refl, refl);
  three-stands = (refl, refl);
  line-1 = refl;
  line-2 = refl;
  line-3 = refl;
  d1 = (refl, refl);
  d2 = refl;
  d3 = refl;
  d4 = (refl, refl);
  d5 = (refl, refl);
  d6 = refl;
  d7 = (refl, refl);
  d8 = refl;
  d9 = best-of-two;
  d10 = refl;
  d11 = refl;
  d12 = refl;
}
