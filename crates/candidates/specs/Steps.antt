-- One action's vector at some weights, over storage and through the model; the best of the actions' vectors; and what they are built upon.
use Rattle.std.specs.Prelude.{ℕ, ◌*◌, ◌-◌, ◌≤◌, Bool, true, List, [], length, get_or, ℤ, pos}
use Rattle.integers.specs.Whole.{floor_div}
use Rattle.integers.specs.Search.{first_largest_of}
use Rattle.integers.specs.Cells.{padded}
use Rattle.tables.specs.declared.Counts.{Counts}
use Rattle.tables.specs.Limits.{max_states, max_observations, max_levels, K}
use Rattle.tables.specs.Model.{Model, Valid}
use Rattle.tables.specs.Storage.{weight_in, model_in}
use Rattle.tables.specs.Steps.{Stored}
use Rattle.masks.specs.Masks.{mask_of, masked_in}
use Rattle.masks.specs.Steps.{includes}
use Rattle.sums.specs.Steps.{foreseen_in, backup_in}
use Rattle.plans.specs.Level.{Level, product, Shaped}
use Rattle.plans.specs.Build.{chosen, entry_for, best_action}
use Rattle.levels.specs.Storage.{floor_in}
use Rattle.backups.specs.Steps.{successors_in}
use Rattle.candidates.specs.declared.Candidate.{Candidate}
use Rattle.candidates.specs.declared.Best.{Best}

-- a level that is built upon has fewer than 100 below it
abbrev pub top_built : ℕ
top_built = max_levels - 1

-- a vector covers all n states
abbrev pub whole_in : ℕ → List ℕ → ℕ → Bool
whole_in n masks v = includes (get_or masks v 0) (mask_of n (λ s. true))

-- the first previous vector with the largest product with the successor weights, of those that cover all states
unfoldable pub choice_for : ℕ → ℕ → List ℕ → List ℕ → List ℕ → List ℤ → ℕ → List ℕ → ℕ → ℕ → ℕ
choice_for n k transition observation masks entries vectors p a o =
    first_largest_of vectors (whole_in n masks)
    (λ v. product n (weight_in (successors_in n k transition observation p a o)) (masked_in n masks entries v))

-- an action's vector at weights p: each entry is the backup over K rounded towards minus infinity; its choices are a table of one row
unfoldable pub candidate_in : Counts → List ℕ → List ℕ → List ℤ → List ℕ → List ℤ → ℕ → List ℕ → ℕ → Candidate
candidate_in c transition observation reward masks entries vectors p a =
    let n : ℕ = c.states in
    let k : ℕ = c.observations in
    let choices : List ℕ = padded 0 max_observations k (choice_for n k transition observation masks entries vectors p a) in
    let foreseen : List ℤ = padded (pos 0) max_states n (foreseen_in n k observation masks entries choices 0 a) in
    record { chosen = choices; entries = padded (pos 0) max_states n (λ s. floor_div (backup_in n c.discount transition reward foreseen a s) K) }

-- the same, through the model and the level
unfoldable pub candidate_of : Model → Level → List ℕ → ℕ → Candidate
candidate_of M L p a = record {
  chosen = padded 0 max_observations M.observations (chosen M L (weight_in p) a);
  entries = padded (pos 0) max_states M.states (entry_for M L (weight_in p) a);
}

-- the first action whose vector has the largest product with p, and its vector
unfoldable pub best_of : Model → Level → List ℕ → Best
best_of M L p =
    let a : ℕ = best_action M L (weight_in p) in
    record { action = record { 0 = a }; candidate = candidate_of M L p a }

-- the entries of a standing level, of which only the vectors are read
abbrev pub upon_in : Counts → ℕ → List ℕ → List ℤ → Level
upon_in c vectors masks entries = floor_in c.states c.observations vectors [] [] masks entries

-- tables that are not refused, and standing vectors that can be built upon
pub record Upon (c : Counts) (transition observation : List ℕ) (reward : List ℤ) (masks : List ℕ) (entries : List ℤ) (vectors : ℕ) : Type 0 where
  pub valid : Valid (model_in c transition observation reward)
  pub stored : Stored c transition observation reward
  pub shaped : Shaped (model_in c transition observation reward) top_built (upon_in c vectors masks entries)
  pub masks_stored : vectors ≤ length masks
  pub entries_stored : vectors * c.states ≤ length entries
