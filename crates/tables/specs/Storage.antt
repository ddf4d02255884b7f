-- From storage to the model: tables lie packed by the counts, the last index fastest. Every contract speaks through these.
--
--   T by a, s, s'     O by a, s', o     R by a, s     a vector's entries by v, s     its choices by v, o
use Rattle.std.specs.Prelude.{ℕ, ◌+◌, ◌*◌, List, get_or, take, drop, ℤ, pos}
use Rattle.tables.specs.declared.Counts.{Counts}
use Rattle.tables.specs.Tables.{Tables}
use Rattle.tables.specs.Model.{Model}

-- where row r of width w starts, and where its place x lies
abbrev pub row_start : ℕ → ℕ → ℕ
row_start w r = r * w

abbrev pub row_place : ℕ → ℕ → ℕ → ℕ
row_place w r x = row_start w r + x

-- row r of width w, as a list
abbrev pub row_in : {A : Type 0} → ℕ → List A → ℕ → List A
row_in w cells r = take w (drop (row_start w r) cells)

-- where place x, in rows of width w, of row s of block a lies, with n rows to a block
abbrev pub cell_place : ℕ → ℕ → ℕ → ℕ → ℕ → ℕ
cell_place n w a s x = row_place w (row_place n a s) x

-- the cell at place x of row s of block a
abbrev pub cell_in : ℕ → ℕ → List ℕ → ℕ → ℕ → ℕ → ℕ
cell_in n w cells a s x = get_or cells (cell_place n w a s x) 0

abbrev pub transition_in : ℕ → List ℕ → ℕ → ℕ → ℕ → ℕ
transition_in n cells s a s' = cell_in n n cells a s s'

abbrev pub observation_in : ℕ → ℕ → List ℕ → ℕ → ℕ → ℕ → ℕ
observation_in n k cells a s' o = cell_in n k cells a s' o

abbrev pub reward_in : ℕ → List ℤ → ℕ → ℕ → ℤ
reward_in n cells s a = get_or cells (row_place n a s) (pos 0)

-- weights are listed by state
abbrev pub weight_in : List ℕ → ℕ → ℕ
weight_in p s = get_or p s 0

abbrev pub entry_in : ℕ → List ℤ → ℕ → ℕ → ℤ
entry_in n cells v s = get_or cells (row_place n v s) (pos 0)

-- the vector that v chooses for o
abbrev pub choice_in : ℕ → List ℕ → ℕ → ℕ → ℕ
choice_in k cells v o = get_or cells (row_place k v o) 0

-- the model that is read by the counts from T, O and R
abbrev pub model_in : Counts → List ℕ → List ℕ → List ℤ → Model
model_in c transition observation reward = record {
  states = c.states;
  actions = c.actions;
  observations = c.observations;
  discount = c.discount;
  transition = transition_in c.states transition;
  observation = observation_in c.states c.observations observation;
  reward = reward_in c.states reward;
}

abbrev pub counts_of : Tables → Counts
counts_of m = record { states = m.states; actions = m.actions; observations = m.observations; discount = m.discount }

-- the model that tables stand for
abbrev pub model_of : Tables → Model
model_of m = model_in (counts_of m) m.transition m.observation m.reward

-- tables that are handed in as counts and slices
abbrev pub tables_in : Counts → List ℕ → List ℕ → List ℤ → Tables
tables_in c transition observation reward = record {
  states = c.states;
  actions = c.actions;
  observations = c.observations;
  discount = c.discount;
  transition = transition;
  observation = observation;
  reward = reward;
}
