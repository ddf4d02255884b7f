-- What holds of a level that was adopted from a solver's files.
use Rattle.std.specs.Prelude.{ℕ, ◌<◌, ◌≡◌, true, List, ◌≤ℤ◌}
use Rattle.tables.specs.Tables.{Tables}
use Rattle.refusals.specs.Verdicts.{Fine}
use Rattle.tables.specs.Model.{backed_up}
use Rattle.tables.specs.Storage.{model_of}
use Rattle.plans.specs.Level.{follows}
use Rattle.levels.specs.Storage.{Cells, Lent, level_of, complete, standing_in}
use Rattle.runs.specs.State.{verdict_on}
use Rattle.solver.specs.Files.{vectors_in, ticks_at}
use Rattle.adoption.specs.Adopt.{solved_from, adopted_level}

-- slices y' that it was left in, of those that were lent, y: the same certifier accepts it, if its slices have room for it, so that 13 to 15 cannot meet it;
-- and where a decimal is within its backup, the entry is that decimal in ticks
pub record AdoptHolds (m : Tables) (x : Lent) (alphaFile graphFile : List ℕ) (count : ℕ) (y y' : Cells) : Type 0 where
  pub accepted : complete m (adopted_level m alphaFile count x.cells) ≡ true → verdict_on m x (adopted_level m alphaFile count y') ≡ Fine
  pub kept : (v : ℕ) → v < vectors_in m.states alphaFile → (s : ℕ) → s < m.states
      → let W = solved_from m x alphaFile graphFile count y in
      ticks_at m.states alphaFile v s ≤ℤ backed_up (model_of m) (W.action v) (follows (level_of m (standing_in x)) (W.choice v)) s
      → (level_of m (adopted_level m alphaFile count y')).entry v s ≡ ticks_at m.states alphaFile v s
