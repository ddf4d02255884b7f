-- Vectors that cover part of the states, by example, in the dough model: what 21 and 22 say, in their order, and what is stored. The prover computes the
-- definitions that the contracts name. Assumes nothing.
use Rattle.integers.proofs.Kit.{◌≡◌, refl, [], ◌∷◌, ℕ, replicate, ℤ, pos, negsuc}
use Rattle.integers.specs.Whole.{◌·◌, sum_to, total_to, largest_to, lesser, ceil_div, floor_div}
use Rattle.integers.specs.Search.{every, some, first_largest_of}
use Rattle.integers.specs.Cells.{listed, laid, laid_rows}
use Rattle.refusals.specs.Verdicts.{Fine, Refused, first_of}
use Rattle.tables.specs.Limits.{K}
use Rattle.tables.specs.Model.{successor, expected_reward, backup}
use Rattle.tables.specs.Judged.{limits_hold, rows_total, tables_verdict}
use Rattle.masks.specs.Masks.{covered, mask_of}
use Rattle.plans.specs.Limits.{range}
use Rattle.plans.specs.Level.{covers_all, counts, product, joined, smallest, or_none, drop, gain, ceiling, backup_at, corner_weight, follows}
use Rattle.plans.specs.Rows.{highest, best_row, informed_backup, informed_next, qmdp_backup, qmdp_next}
use Rattle.plans.specs.Totals.{best, lower, upper, advice}
use Rattle.levels.specs.Storage.{LentLevel, Lent, lent_for, over}
use Rattle.levels.specs.Judged.{rows_within, values_within, ranges_verdict, weights_verdict, holds_up_to, numbers_in, floors_verdict, corners_verdict}
use Rattle.levels.specs.Judged.{points_verdict}
use Rattle.levels.specs.Judged.{masks_verdict, level_verdict, shape_up_to, backups_verdict, offer_up_to, offer_verdict}
use Rattle.runs.specs.State.{offered, standing_verdict, totals_verdict, totals_of, build_verdict}
use Rattle.runs.proofs.Dough.{dough, slices, rows_at, fresh, given, refused, half}

-- the mask of the second state, and one with a state that there is not
abbrev ripe : ℕ
ripe = 2

abbrev past : ℕ
past = 6

-- a level of one vector and no points: its action, its mask, its two entries, two corners
offer : ℕ → ℕ → ℤ → ℤ → ℤ → ℤ → LentLevel
offer action mask x y corner corner' = lent_for 1 0 record {
  actions = action ∷ [];
  choices = 0 ∷ 0 ∷ [];
  masks = mask ∷ [];
  entries = x ∷ y ∷ [];
  corners = corner ∷ corner' ∷ [];
  weights = [];
  values = [];
}

-- baking a ripe dough: the entry at the other state is not read, and is out of range
baked : LentLevel
baked = offer 1 past (pos 999_999) (pos 600) (negsuc 99) (pos 600)

-- the certifier that stands then
stands : Lent
stands = record {
  state = 1 ∷ 1 ∷ 0 ∷ [];
  cells = record {
    actions = 1 ∷ 0 ∷ 0 ∷ [];
    choices = replicate 6 0;
    masks = ripe ∷ 0 ∷ 0 ∷ [];
    entries = pos 0 ∷ pos 600 ∷ replicate 4 (pos 0);
    corners = negsuc 99 ∷ pos 600 ∷ [];
    weights = replicate 2 0;
    values = replicate 1 (pos 0);
  };
  rows = rows_at 1;
}

-- the next level: an action, a mask and the entry of the ripe state
next : ℕ → ℕ → ℤ → LentLevel
next action mask y = offer action mask (pos 0) y (pos 440) (pos 510)

record Table : Type 0 where
  -- an entry that is not covered is unread; it is stored as 0, and the mask without a state that there is not
  accepted : (offer_verdict dough fresh baked ≡ Fine) × (offered dough fresh baked ≡ stands)
  -- a covered entry is read
  covered-range : offer_verdict dough fresh (offer 1 3 (pos 999_999) (pos 600) (negsuc 99) (pos 600)) ≡ Refused 11 0
  covered-backup : offer_verdict dough fresh (offer 1 past (pos 0) (pos 601) (negsuc 99) (pos 600)) ≡ Refused 13 0
  -- a mask of no state
  empty : offer_verdict dough fresh (offer 0 0 (pos 999_999) (pos 999_999) (negsuc 99) (pos 600)) ≡ Fine
  -- totals where all weight lies on covered states, else 22; 17 comes first
  counts-there : totals_of dough stands (0 ∷ 1 ∷ []) ≡ given (pos 600) (pos 600) (pos 0) 1 (pos 600) (pos 600)
  counts-not : totals_of dough stands (1 ∷ 0 ∷ []) ≡ refused 22
  counts-partly : totals_of dough stands (1 ∷ 1 ∷ []) ≡ refused 22
  no-weight : totals_of dough stands (0 ∷ 0 ∷ []) ≡ refused 17
  too-heavy : totals_of dough stands (1_000_001 ∷ 0 ∷ []) ≡ refused 17
  -- 16 comes before 17
  level-0 : totals_of dough fresh (0 ∷ 0 ∷ []) ≡ refused 16
  -- nothing is built upon vectors that cover a part; 12 comes first
  none-covers-all : build_verdict dough stands 1 half ≡ Refused 22 0
  no-point : build_verdict dough stands 1 (slices 0 (replicate 2 0)) ≡ Refused 12 0
  -- a ripe dough that rests stays ripe, and its entry is tested; one that is baked does not stay, which comes before the test of its entry
  rests : offer_verdict dough stands (next 0 ripe (pos 440)) ≡ Fine
  rests-above : offer_verdict dough stands (next 0 ripe (pos 441)) ≡ Refused 13 0
  leaves : offer_verdict dough stands (next 1 ripe (pos 100_000)) ≡ Refused 21 0
  -- and a dough that is not ripe is not covered by what was chosen
  from-the-other : offer_verdict dough stands (next 0 3 (pos 440)) ≡ Refused 21 0

table : Table
unfolding dough slices rows_at fresh half offer baked stands next offered offer_up_to shape_up_to level_verdict backups_verdict masks_verdict floors_verdict
    corners_verdict points_verdict numbers_in holds_up_to over totals_of totals_verdict standing_verdict best lower upper advice build_verdict tables_verdict
    limits_hold rows_total first_of every total_to ranges_verdict rows_within values_within weights_verdict range first_largest_of product successor sum_to
    backup follows floor_div ceil_div backup_at expected_reward ceiling largest_to drop gain smallest joined or_none covers_all counts some covered mask_of
    corner_weight laid laid_rows listed lesser highest best_row informed_backup informed_next qmdp_backup qmdp_next ◌·◌ K
table = record {
  accepted = (refl, refl);
  covered-range = refl;
  covered-backup = refl;
  empty = refl;
  counts-there = refl;
  counts-not = refl;
  counts-partly = refl;
  no-weight = refl;
  too-heavy = refl;
  level-0 = refl;
  none-covers-all = refl;
  no-point = refl;
  rests = refl;
  rests-above = refl;
  leaves = refl;
  from-the-other = refl;
}
