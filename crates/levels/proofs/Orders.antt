-- In which order an offered level is refused, by example: a level that breaks all that is tested, and what it is refused for as one part after the other is
-- mended. The prover computes the definitions that the contracts name. Assumes nothing.
use Rattle.integers.proofs.Kit.{◌≡◌, refl, true, Bool, false, ℕ, ℤ, pos, negsuc}
use Rattle.integers.specs.Whole.{◌·◌, sum_to, total_to, largest_to}
use Rattle.integers.specs.Search.{every}
use Rattle.refusals.specs.Verdicts.{Verdict, Fine, Refused, first_of}
use Rattle.tables.specs.Limits.{one, K}
use Rattle.tables.specs.Model.{Model, successor, expected_reward, backup}
use Rattle.plans.specs.Limits.{range}
use Rattle.plans.specs.Level.{Level, product, joined, smallest, or_none, drop, gain, ceiling, backup_at, corner_weight, follows}
use Rattle.levels.specs.Judged.{rows_within, values_within, ranges_verdict, weights_verdict, numbers_in, level_verdict}
use Rattle.levels.specs.Judged.{masks_verdict, floors_verdict, corners_verdict, points_verdict, backups_verdict}

-- one state that stays what it is and earns nothing
still : Model
still = record {
  states = 1;
  actions = 1;
  observations = 1;
  discount = one;
  transition = λ s a s'. one;
  observation = λ a s' o. one;
  reward = λ s a. pos 0;
}

-- one vector and one point: an action, whether the state is covered, an entry, a corner, a weight, a value
level : ℕ → Bool → ℤ → ℤ → ℕ → ℤ → Level
level action covers entry corner weight value = record {
  vectors = 1;
  action = λ v. action;
  choice = λ v o. 0;
  covers = λ v s. covers;
  entry = λ v s. entry;
  corner = λ s. corner;
  points = 1;
  weight = λ i s. weight;
  value = λ i. value;
}

-- 10 to 12 of a level that is offered as the first
alone : ℕ → ℤ → ℕ → Verdict
alone action entry weight = level_verdict 1 1 1 1 1 (level action true entry (pos 0) weight (pos 0))

-- 21 and 13 to 15 over a level of zeros, which covers the state or does not
over : Bool → ℤ → ℤ → ℤ → Verdict
over covers entry corner value = backups_verdict still (level 0 covers (pos 0) (pos 0) 1 (pos 0)) (level 0 true entry corner 1 value)

record Table : Type 0 where
  ten : alone 1 (pos 100_001) 0 ≡ Refused 10 0
  eleven : alone 0 (pos 100_001) 0 ≡ Refused 11 0
  twelve : alone 0 (pos 100_000) 0 ≡ Refused 12 0
  passes : alone 0 (pos 100_000) 1 ≡ Fine
  twenty-one : over false (pos 1) (negsuc 0) (negsuc 0) ≡ Refused 21 0
  thirteen : over true (pos 1) (negsuc 0) (negsuc 0) ≡ Refused 13 0
  fourteen : over true (pos 0) (negsuc 0) (negsuc 0) ≡ Refused 14 0
  fifteen : over true (pos 0) (pos 0) (negsuc 0) ≡ Refused 15 0
  holds : over true (pos 0) (pos 0) (pos 0) ≡ Fine

table : Table
unfolding still level alone over level_verdict numbers_in ranges_verdict rows_within values_within weights_verdict backups_verdict masks_verdict floors_verdict
    corners_verdict points_verdict first_of every total_to sum_to largest_to range product joined smallest or_none drop gain ceiling backup_at corner_weight
    follows successor expected_reward backup ◌·◌ K
table = record {
  ten = refl;
  eleven = refl;
  twelve = refl;
  passes = refl;
  twenty-one = refl;
  thirteen = refl;
  fourteen = refl;
  fifteen = refl;
  holds = refl;
}
