-- Small files, adopted by the prover over levels of the dough model of document 01: it computes the definitions that the contracts name. Assumes nothing.
--
-- In order: alpha files with two entries in a vector, then graph files with two observations; a slash stands for an LF; certifiers; what is adopted at the
-- point (50, 50).
use Rattle.integers.proofs.Kit.{◌≡◌, refl, List, [], ◌∷◌, ℕ, replicate, pos, negsuc}
use Rattle.integers.specs.Whole.{◌·◌, sum_to, total_to, largest_to, lesser, floor_div, ceil_div}
use Rattle.integers.specs.Search.{every, first_largest_of}
use Rattle.integers.specs.Cells.{listed, laid, laid_rows}
use Rattle.refusals.specs.Verdicts.{Fine, Refused, first_of}
use Rattle.tables.specs.Limits.{K}
use Rattle.tables.specs.Model.{successor, expected_reward, backup, backed_up}
use Rattle.tables.specs.Judged.{limits_hold, rows_total, tables_verdict}
use Rattle.masks.specs.Masks.{covered, mask_of}
use Rattle.plans.specs.Limits.{range}
use Rattle.plans.specs.Level.{product, joined, smallest, or_none, drop, gain, ceiling, backup_at, corner_weight, follows}
use Rattle.plans.specs.Build.{least_for, least_value}
use Rattle.levels.specs.Storage.{rows, Lent, over}
use Rattle.levels.specs.Judged.{rows_within, values_within, ranges_verdict, weights_verdict, holds_up_to, numbers_in, masks_verdict}
use Rattle.runs.proofs.Dough.{dough, slices, rows_at, fresh, half, one, standing}
use Rattle.words.specs.Words.{word_run, words_of, words_in}
use Rattle.numerals.specs.Numeral.{digits, value, amount_of, fraction, after_point, exponent}
use Rattle.grammar.specs.Grammar.{number, magnitude, signed_number, same, key}
use Rattle.alphas.specs.Alphas.{action, decimal, next_node, several, alpha, node}
use Rattle.solver.specs.Files.{all_from, all_in, alike, files_verdict}
use Rattle.solved.specs.Solved.{solved}
use Rattle.adoption.specs.Adopt.{adopt_verdict, adopted}

-- ---- alpha files with two entries in a vector, then graph files with two observations; a slash stands for an LF

-- 0 -1 -1 / 1 -10 6
abbrev one_step : List ℕ
one_step = 48 ∷ 32 ∷ 45 ∷ 49 ∷ 32 ∷ 45 ∷ 49 ∷ 10 ∷ 49 ∷ 32 ∷ 45 ∷ 49 ∷ 48 ∷ 32 ∷ 54 ∷ []

-- 0 -1 -1 / 1 -1000.01 6
abbrev below_range : List ℕ
below_range = 48 ∷ 32 ∷ 45 ∷ 49 ∷ 32 ∷ 45 ∷ 49 ∷ 10 ∷ 49 ∷ 32 ∷ 45 ∷ 49 ∷ 48 ∷ 48 ∷ 48 ∷ 46 ∷ 48 ∷ 49 ∷ 32 ∷ 54 ∷ []

-- 0 -999999 0
abbrev far_below : List ℕ
far_below = 48 ∷ 32 ∷ 45 ∷ 57 ∷ 57 ∷ 57 ∷ 57 ∷ 57 ∷ 57 ∷ 32 ∷ 48 ∷ []

-- 0 -0.5 2.505
abbrev too_high : List ℕ
too_high = 48 ∷ 32 ∷ 45 ∷ 48 ∷ 46 ∷ 53 ∷ 32 ∷ 50 ∷ 46 ∷ 53 ∷ 48 ∷ 53 ∷ []

-- 0 -1
abbrev short : List ℕ
short = 48 ∷ 32 ∷ 45 ∷ 49 ∷ []

-- 0 0 - - / 1 1 - -
abbrev hyphens : List ℕ
hyphens = 48 ∷ 32 ∷ 48 ∷ 32 ∷ 45 ∷ 32 ∷ 45 ∷ 10 ∷ 49 ∷ 32 ∷ 49 ∷ 32 ∷ 45 ∷ 32 ∷ 45 ∷ []

-- 0 0 - - / 1 1 - 1
abbrev next_of_one : List ℕ
next_of_one = 48 ∷ 32 ∷ 48 ∷ 32 ∷ 45 ∷ 32 ∷ 45 ∷ 10 ∷ 49 ∷ 32 ∷ 49 ∷ 32 ∷ 45 ∷ 32 ∷ 49 ∷ []

-- 0 0 0 -
abbrev late_hyphen : List ℕ
late_hyphen = 48 ∷ 32 ∷ 48 ∷ 32 ∷ 48 ∷ 32 ∷ 45 ∷ []

-- 0 0 0 1
abbrev two_steps : List ℕ
two_steps = 48 ∷ 32 ∷ 48 ∷ 32 ∷ 48 ∷ 32 ∷ 49 ∷ []

-- 0 0 0 2
abbrev two_whole : List ℕ
two_whole = 48 ∷ 32 ∷ 48 ∷ 32 ∷ 48 ∷ 32 ∷ 50 ∷ []

-- 0 0 0 1 / 1 1 0 3
abbrev next_of_three : List ℕ
next_of_three = 48 ∷ 32 ∷ 48 ∷ 32 ∷ 48 ∷ 32 ∷ 49 ∷ 10 ∷ 49 ∷ 32 ∷ 49 ∷ 32 ∷ 48 ∷ 32 ∷ 51 ∷ []

-- ---- certifiers

-- rows of a tick at level 0, which 7 refuses
abbrev wrong_rows : Lent
wrong_rows = record { state = fresh.state; cells = fresh.cells; rows = rows (replicate 4 (pos 1)) (replicate 4 (pos 1)) }

-- a level that stands as the hundredth
abbrev hundredth : Lent
hundredth = record { state = 100 ∷ 3 ∷ 1 ∷ []; cells = one; rows = rows_at 1 }

-- level 1, but for vector 1, which covers the first state alone
abbrev in_part : Lent
in_part = standing 1 record {
  actions = one.actions;
  choices = one.choices;
  masks = 3 ∷ 1 ∷ 3 ∷ [];
  entries = one.entries;
  corners = one.corners;
  weights = one.weights;
  values = one.values;
}

-- ---- what is adopted at the point (50, 50)

record Table : Type 0 where
  -- a hyphen at the first level is vector 0
  first-verdict : adopt_verdict dough fresh one_step hyphens 1 half ≡ Fine
  first : adopted dough fresh one_step hyphens 1 half ≡ record {
    actions = 0 ∷ 1 ∷ 0 ∷ [];
    choices = replicate 6 0;
    masks = 3 ∷ 3 ∷ 0 ∷ [];
    entries = negsuc 99 ∷ negsuc 99 ∷ negsuc 999 ∷ pos 600 ∷ pos 0 ∷ pos 0 ∷ [];
    corners = negsuc 99 ∷ pos 600 ∷ [];
    weights = 50 ∷ 50 ∷ [];
    values = negsuc 9_999 ∷ [];
  }
  -- over level 1 the backups are -50.5 and 251 ticks: -0.5 is above its own, so the entry is -51, as in D3 and D4; 2.505 is rounded down
  second-verdict : adopt_verdict dough (standing 1 one) too_high two_steps 1 half ≡ Fine
  second : adopted dough (standing 1 one) too_high two_steps 1 half ≡ record {
    actions = replicate 3 0;
    choices = 0 ∷ 1 ∷ 0 ∷ 0 ∷ 0 ∷ 0 ∷ [];
    masks = 3 ∷ 0 ∷ 0 ∷ [];
    entries = negsuc 50 ∷ pos 250 ∷ pos 0 ∷ pos 0 ∷ pos 0 ∷ pos 0 ∷ [];
    corners = negsuc 31 ∷ pos 510 ∷ [];
    weights = 50 ∷ 50 ∷ [];
    values = pos 12_500 ∷ [];
  }
  -- 10: level 0 has no vector 1; and a hyphen at a later level, before 11
  no-vector-1 : adopt_verdict dough fresh one_step next_of_one 1 half ≡ Refused 10 1
  late-hyphen : adopt_verdict dough (standing 1 one) far_below late_hyphen 1 half ≡ Refused 10 0
  -- 21: vector 1 does not cover the second state, which is reached; before 11, and after 10 throughout; vectors 0 and 2 cover both states
  not_covered : adopt_verdict dough in_part too_high two_steps 1 half ≡ Refused 21 0
  before-ranges : adopt_verdict dough in_part far_below two_steps 1 half ≡ Refused 21 0
  after-numbers : adopt_verdict dough in_part one_step next_of_three 1 half ≡ Refused 10 1
  whole : adopt_verdict dough in_part too_high two_whole 1 half ≡ Fine
  -- 11 at its vector; what is refused leaves the slices as they were
  below-range : adopt_verdict dough fresh below_range hyphens 1 half ≡ Refused 11 1
  left_alone : adopted dough fresh below_range hyphens 1 half ≡ half
  -- 9: no vector
  empty : adopt_verdict dough fresh [] [] 1 half ≡ Refused 9 0
  -- 7 before 19, and 19 before 8
  rows-first : adopt_verdict dough wrong_rows short hyphens 1 half ≡ Refused 7 0
  files-next : adopt_verdict dough hundredth short hyphens 1 half ≡ Refused 19 4
  levels-then : adopt_verdict dough hundredth one_step hyphens 1 half ≡ Refused 8 0

table : Table
unfolding dough slices rows_at fresh half one standing solved adopt_verdict adopted numbers_in masks_verdict holds_up_to over tables_verdict limits_hold
    rows_total first_of every total_to ranges_verdict rows_within values_within weights_verdict range least_value least_for first_largest_of product
    successor sum_to backed_up backup follows floor_div ceil_div backup_at expected_reward ceiling largest_to drop gain smallest joined or_none
    corner_weight covered mask_of laid laid_rows listed lesser ◌·◌ K word_run words_of words_in digits value amount_of fraction after_point exponent number
    magnitude signed_number same key action decimal next_node several alpha node all_from all_in alike files_verdict
table = record {
  first-verdict = refl;
  first = refl;
  second-verdict = refl;
  second = refl;
  no-vector-1 = refl;
  late-hyphen = refl;
  not_covered = refl;
  before-ranges = refl;
  after-numbers = refl;
  whole = refl;
  below-range = refl;
  left_alone = refl;
  empty = refl;
  rows-first = refl;
  files-next = refl;
  levels-then = refl;
}
