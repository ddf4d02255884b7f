-- The call that makes the level of a solver's files: what it is refused for, and what is left in the slices lent for it.
--
--   adopt_verdict       1, 7, 19, 20, then 8 to 10, 21, 11 and 12
--   adopted            the level laid over the slices, or these as they were
--   adopt_answer           the number of vectors, or the refusal
use Rattle.std.specs.Prelude.{ℕ, ◌+◌, Bool, ◌&&◌, List, leb, ltb, length, Result}
use Rattle.tables.specs.Tables.{Tables}
use Rattle.refusals.specs.declared.Refusal.{Refusal}
use Rattle.refusals.specs.Verdicts.{Verdict, ◌before◌, unless, left}
use Rattle.tables.specs.Limits.{max_vectors, max_levels}
use Rattle.tables.specs.Model.{Model}
use Rattle.tables.specs.Storage.{model_of}
use Rattle.tables.specs.Judged.{count_within}
use Rattle.plans.specs.Limits.{max_built}
use Rattle.plans.specs.Level.{Level}
use Rattle.levels.specs.Storage.{Cells, LentLevel, Lent, level_of, point_in, complete, over, number_in, standing_in, lent_for}
use Rattle.levels.specs.Judged.{holds, numbers_verdict, masks_verdict, ranges_verdict, weights_verdict}
use Rattle.solver.specs.Files.{max_file, vectors_in, files_verdict, with_count}
use Rattle.solved.specs.Solved.{solved}

-- the level of the files over what stands, with the weights of a count of points
abbrev pub solved_from : Tables → Lent → List ℕ → List ℕ → ℕ → Cells → Level
solved_from m x alphaFile graphFile count y =
    solved (model_of m) (number_in x) (level_of m (standing_in x)) alphaFile graphFile count (point_in m.states y.weights)

-- the slices of a level of the files' vectors and a count of points
abbrev pub adopted_level : Tables → List ℕ → ℕ → Cells → LentLevel
adopted_level m alphaFile count y = lent_for (vectors_in m.states alphaFile) count y

-- 9: no vector or too many, too many points to build at, or a slice too short for the level
abbrev pub adopt_fits : Tables → List ℕ → ℕ → Cells → Bool
adopt_fits m alphaFile count y =
    count_within max_vectors (vectors_in m.states alphaFile) && (leb count max_built && complete m (adopted_level m alphaFile count y))

-- 10, 21, 11 and 12 of the level W that the files say, over the level L
abbrev pub solved_verdict : Model → ℕ → Level → Level → Verdict
solved_verdict M t L W =
    numbers_verdict M.actions M.observations L.vectors W
    before masks_verdict M L W
    before ranges_verdict M.states (t + 1) W
    before weights_verdict M.states W.points W.weight

-- 1 of either file, 7 of the certifier, 19 and 20 of the files, then 8 and 9, and those of the level
unfoldable pub adopt_verdict : Tables → Lent → List ℕ → List ℕ → ℕ → Cells → Verdict
adopt_verdict m x alphaFile graphFile count y =
    unless (leb (length alphaFile) max_file && leb (length graphFile) max_file) 1 0
    before unless (holds m x) 7 0
    before files_verdict m.states m.observations alphaFile graphFile
    before unless (ltb (number_in x) max_levels) 8 0
    before unless (adopt_fits m alphaFile count y) 9 0
    before solved_verdict (model_of m) (number_in x) (level_of m (standing_in x)) (solved_from m x alphaFile graphFile count y)

unfoldable pub adopted : Tables → Lent → List ℕ → List ℕ → ℕ → Cells → Cells
adopted m x alphaFile graphFile count y =
    left (adopt_verdict m x alphaFile graphFile count y) (over m (solved_from m x alphaFile graphFile count y) y) y

-- what the call answers
abbrev pub adopt_answer : Verdict → ℕ → Result ℕ Refusal
adopt_answer v vectors = with_count v vectors
