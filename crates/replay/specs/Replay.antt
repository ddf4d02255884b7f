-- A list of offers that lies packed in slices, run through the calls one after the other.
--
--   replay_answer   how many of the offers were accepted
--   replayed       what is left of a certifier: as the list leaves it
--   ReplayHolds    that demand 3 holds of the whole list
use Rattle.std.specs.Prelude.{◌≡◌, ℕ, ◌+◌, List, ◌++◌, Result, Ok, Err}
use Rattle.tables.specs.Tables.{Tables}
use Rattle.refusals.specs.declared.Refusal.{Refusal}
use Rattle.refusals.specs.Verdicts.{Verdict, left}
use Rattle.levels.specs.Storage.{LentLevel, Lent}
use Rattle.runs.specs.Demand3.{Event, offers, certifier, after, steps, Demand3}
use Rattle.blocks.specs.Blocks.{Packed, replay_verdict}
use Rattle.series.specs.Series.{offers_in, offered_all, accepted_of}

-- how many were accepted, or the refusal
abbrev pub replayed_by : Verdict → ℕ → Result ℕ Refusal
replayed_by (Ok u) accepted = Ok accepted
replayed_by (Err e) accepted = Err e

unfoldable pub replay_answer : Tables → Lent → Packed → ℕ → Result ℕ Refusal
replay_answer m x b count = replayed_by (replay_verdict m x b count) (accepted_of m x (offers_in m b count))

unfoldable pub replayed : Tables → Lent → Packed → ℕ → Lent
replayed m x b count = left (replay_verdict m x b count) (offered_all m x (offers_in m b count)) x

-- what a list of offers leaves, where the certifier was opened as x₀ on tables m₀, was handed es before, and tables m are in force: the list goes on, and
-- demand 3 holds of the whole of it
pub record ReplayHolds (m₀ : Tables) (x₀ : Lent) (es : List Event) (ls : List LentLevel) (m : Tables) (x : Lent) (accepted : ℕ) : Type 0 where
  pub left_is : certifier m x ≡ after m₀ x₀ (es ++ offers ls)
  pub steps_are : steps m₀ x₀ (es ++ offers ls) ≡ steps m₀ x₀ es + accepted
  pub claim : Demand3 m₀ x₀ (es ++ offers ls)
