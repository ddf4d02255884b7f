-- What the code's answers say.
use Rattle.std.specs.Prelude.{List, ℕ, ℤ, Result}
use Rattle.refusals.specs.declared.Refusal.{Refusal}
use Rattle.refusals.specs.Verdicts.{Fine}
use Rattle.tables.specs.declared.Counts.{Counts}
use Rattle.tables.specs.Storage.{counts_of, tables_in}
use Rattle.bodies.specs.Body.{ModelFile, with_counts}

-- what is answered of a file
abbrev pub file_answer : ModelFile → Result Counts Refusal
file_answer x = with_counts x.verdict (counts_of x.tables)

-- the file of which counts and slices are read
abbrev pub file_in : Counts → List ℕ → List ℕ → List ℤ → List ℕ → ModelFile
file_in c transition observation reward start = record { verdict = Fine; tables = tables_in c transition observation reward; start = start }
