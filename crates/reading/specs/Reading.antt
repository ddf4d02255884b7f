-- Reading a model file into lent slices.
use Rattle.std.specs.Prelude.{ℕ, ◌*◌, List, leb, length, get_or, ℤ, pos, Result}
use Rattle.integers.specs.Cells.{laid}
use Rattle.refusals.specs.declared.Refusal.{Refusal}
use Rattle.refusals.specs.Verdicts.{Verdict, ◌before◌, unless}
use Rattle.tables.specs.declared.Counts.{Counts}
use Rattle.tables.specs.Storage.{counts_of}
use Rattle.bodies.specs.Body.{ModelFile, with_counts}
use Rattle.modelfile.specs.ModelFile.{room, model_file}

-- the file, read for slices that are lent for T, O and R
abbrev pub file_for : List ℕ → List ℕ → List ℕ → List ℤ → ModelFile
file_for file transition observation reward = model_file (room (length transition) (length observation) (length reward)) file

-- the file's own refusals come first; then 100 where the slice for the start numbers is shorter than the states, with them as the place
unfoldable pub read_verdict : ModelFile → List ℕ → Verdict
read_verdict x start = let n = x.tables.states in x.verdict before unless (leb n (length start)) 100 n

abbrev pub read_of : Verdict → ModelFile → Result Counts Refusal
read_of v x = with_counts v (counts_of x.tables)

-- what is read, laid over the slices
abbrev pub laid_transitions : ModelFile → List ℕ → List ℕ
laid_transitions x xs = let m = x.tables in laid (m.actions * m.states * m.states) (λ i. get_or m.transition i 0) xs

abbrev pub laid_observations : ModelFile → List ℕ → List ℕ
laid_observations x xs = let m = x.tables in laid (m.actions * m.states * m.observations) (λ i. get_or m.observation i 0) xs

abbrev pub laid_rewards : ModelFile → List ℤ → List ℤ
laid_rewards x xs = let m = x.tables in laid (m.actions * m.states) (λ i. get_or m.reward i (pos 0)) xs

abbrev pub laid_start : ModelFile → List ℕ → List ℕ
laid_start x xs = laid x.tables.states (λ s. get_or x.start s 0) xs
