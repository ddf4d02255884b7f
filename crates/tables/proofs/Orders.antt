-- In which order tables are refused, by example: tables that break all that is tested, and what they are refused for as one part after the other is mended.
-- The prover computes the definition that the contracts name. Assumes nothing.
use Rattle.integers.proofs.Kit.{◌≡◌, refl, [], ◌∷◌, ℕ, pos}
use Rattle.integers.specs.Whole.{total_to}
use Rattle.integers.specs.Search.{every}
use Rattle.tables.specs.Tables.{Tables}
use Rattle.refusals.specs.Verdicts.{Fine, Refused, first_of}
use Rattle.tables.specs.Judged.{limits_hold, rows_total, tables_verdict}

-- one state, one action and one observation, with a discount, a number of T and one of O
with : ℕ → ℕ → ℕ → Tables
with discount transition observation = record {
  states = 1;
  actions = 1;
  observations = 1;
  discount = discount;
  transition = transition ∷ [];
  observation = observation ∷ [];
  reward = pos 0 ∷ [];
}

record Table : Type 0 where
  three : tables_verdict (with 1_001 999 999) ≡ Refused 3 0
  five : tables_verdict (with 1_000 999 999) ≡ Refused 5 0
  six : tables_verdict (with 1_000 1_000 999) ≡ Refused 6 0
  passes : tables_verdict (with 1_000 1_000 1_000) ≡ Fine

table : Table
unfolding with tables_verdict limits_hold rows_total first_of every total_to
table = record { three = refl; five = refl; six = refl; passes = refl }
