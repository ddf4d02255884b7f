-- Demand 3 of a built level, over exported calls: each is handed the slices as the one before left them.
use Rattle.std.specs.Prelude.{ℕ, ◌≡◌}
use Rattle.tables.specs.Tables.{Tables}
use Rattle.refusals.specs.Verdicts.{Verdict}
use Rattle.levels.specs.Storage.{Cells, Lent}
use Rattle.runs.specs.Demand3.{Claim, BuildHolds}
use Rattle.answers.specs.declared.Refusal.{Refusal}
use Rattle.answers.specs.Calls.{refusal_of}

-- a built level in slices y' of those that were lent, y, with the answer r, upon a certifier's slices x with claim c
pub record Builds (m : Tables) (x : Lent) (c : Claim) (count : ℕ) (y : Cells) (r : Refusal) (y' : Cells) : Type 0 where
  pub verdict : Verdict
  pub answer : r ≡ refusal_of verdict
  pub holds : BuildHolds m x c count y verdict y'
