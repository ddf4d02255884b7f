-- What is claimed of a conversion: what it writes is read back as the same model, with exactly the rewards that the file's outcomes give on the average.
use Rattle.std.specs.Prelude.{ℕ, ◌*◌, ◌<◌, ◌≡◌, true, List, get_or}
use Rattle.integers.specs.Whole.{◌·◌}
use Rattle.refusals.specs.Verdicts.{Fine}
use Rattle.tables.specs.Limits.{one}
use Rattle.tables.specs.Storage.{counts_of, model_of}
use Rattle.bodies.specs.Body.{ModelFile}
use Rattle.modelfile.specs.ModelFile.{Room, room_for, model_file}
use Rattle.expected.specs.Expected.{expected_millionths}
use Rattle.conversion.specs.Convert.{said, converted}

-- y is read from what x was converted to
pub record SameModel (x y : ModelFile) : Type 0 where
  pub served : y.verdict ≡ Fine
  pub counts : counts_of y.tables ≡ counts_of x.tables
  pub transitions : (a : ℕ) → a < x.tables.actions → (s : ℕ) → s < x.tables.states → (s' : ℕ) → s' < x.tables.states
      → (model_of y.tables).transition s a s' ≡ (model_of x.tables).transition s a s'
  pub observations : (a : ℕ) → a < x.tables.actions → (s' : ℕ) → s' < x.tables.states → (o : ℕ) → o < x.tables.observations
      → (model_of y.tables).observation a s' o ≡ (model_of x.tables).observation a s' o
  pub start : (s : ℕ) → s < x.tables.states → get_or y.start s 0 ≡ get_or x.start s 0
  -- T and O are thousandths each
  pub rewards : (a : ℕ) → a < x.tables.actions → (s : ℕ) → s < x.tables.states
      → (one * one) · (model_of y.tables).reward s a
      ≡ expected_millionths (counts_of x.tables) x.tables.transition x.tables.observation x.tables.reward s a

-- into slices that are long enough for it
abbrev pub ConvertHolds : List ℕ → Type 0
ConvertHolds file = (r : Room) → room_for r (counts_of (said file).tables) ≡ true → SameModel (said file) (model_file r (converted file))
