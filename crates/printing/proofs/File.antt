-- A file that the program read: its tables are valid and lie in the program's arrays, and its start numbers are a point. Assumes nothing.
use Rattle.integers.proofs.Kit.{◌≡◌, List, ℕ, arith}
use Rattle.refusals.specs.Verdicts.{Fine}
use Rattle.tables.specs.Model.{Valid}
use Rattle.tables.specs.Storage.{weight_in, counts_of, model_of}
use Rattle.tables.specs.Steps.{Stored}
use Rattle.tables.proofs.Fitting.{Long, sizes}
use Rattle.plans.specs.Level.{IsPoint}
use Rattle.bodies.specs.Body.{ModelFile}
use Rattle.modelfile.specs.ModelFile.{Room, model_file}
use Rattle.modelfile.proofs.Opens.{opens, read-valid}

pub read-given : (f : ModelFile) (r : Room) (file : List ℕ) → f ≡ model_file r file → f.verdict ≡ Fine → Long f.tables → let m = f.tables in
    Valid (model_of m) × (Stored (counts_of m) m.transition m.observation m.reward × IsPoint m.states (weight_in f.start))
read-given f r file e fine long =
    let m = f.tables in
    let valid : Valid (model_of m) = read-valid r file e fine in
    let read = opens r file e fine in
    let s = sizes (record { actions = valid.few_actions; states = valid.few_states; observations = valid.few_observations }) in (
      valid,
      (
        record {
          transitions = omega (arith, s.transitions, long.transition);
          observed = omega (arith, s.observed, long.observation);
          rewards = omega (arith, s.rows, long.reward);
        },
        (omega (arith, read.start-total), omega (arith, read.start-total)),
      ),
    )
