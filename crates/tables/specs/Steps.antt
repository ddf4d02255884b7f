-- What the code asks of storage: that it is long enough, and within the limits.
use Rattle.std.specs.Prelude.{ℕ, ◌+◌, ◌*◌, ◌≤◌, ◌<◌, List, length, ℤ, nat_abs}
use Rattle.tables.specs.declared.Counts.{Counts}
use Rattle.tables.specs.Limits.{max_vectors, max_entry}
use Rattle.tables.specs.Storage.{entry_in}

-- the cells of the rows up to r, of width w, and of the blocks up to a, of n such rows
abbrev pub rows_to : ℕ → ℕ → ℕ
rows_to w r = (r + 1) * w

abbrev pub cells_to : ℕ → ℕ → ℕ → ℕ
cells_to n w a = rows_to n a * w

-- tables long enough for their counts
pub record Stored (c : Counts) (transition observation : List ℕ) (reward : List ℤ) : Type 0 where
  pub transitions : c.actions * c.states * c.states ≤ length transition
  pub observed : c.actions * c.states * c.observations ≤ length observation
  pub rewards : c.actions * c.states ≤ length reward

-- a count of vectors within the limits
pub record EntriesFit (n vectors : ℕ) (entries : List ℤ) : Type 0 where
  pub few : vectors ≤ max_vectors
  pub stored : vectors * n ≤ length entries
  pub entry : (v : ℕ) → v < vectors → (s : ℕ) → s < n → nat_abs (entry_in n entries v s) ≤ max_entry
