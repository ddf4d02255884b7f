-- What keeps the words of a list within their limits, so that no index fails and no sum overflows; and that they say T.
use Rattle.std.specs.Prelude.{ℕ, ◌+◌, ◌*◌, ◌-◌, ◌≤◌, ◌<◌, ◌≡◌, List, length, get_or}
use Rattle.tables.specs.declared.Counts.{Counts}
use Rattle.tables.specs.Limits.{max_states, max_actions, one}
use Rattle.tables.specs.Storage.{row_place, transition_in}
use Rattle.columns.specs.Columns.{state_of, chance_of, turned_back}

-- a table of T within the limits
pub record TableFits (n m : ℕ) (cells : List ℕ) : Type 0 where
  pub some_states : 0 < n
  pub few_states : n ≤ max_states
  pub few_actions : m ≤ max_actions
  pub stored : m * n * n ≤ length cells
  pub chance : (a : ℕ) → a < m → (s : ℕ) → s < n → (s' : ℕ) → s' < n → transition_in n cells s a s' ≤ one

-- the cells from a word on, so many
pub record ColumnStored (n : ℕ) (list : List ℕ) (first count : ℕ) : Type 0 where
  pub few : count ≤ n
  pub stored : first + count ≤ length list
  pub state_in : (i : ℕ) → i < count → state_of (get_or list (first + i) 0) < n
  pub some_chance : (i : ℕ) → i < count → 0 < chance_of (get_or list (first + i) 0)
  pub chance_limit : (i : ℕ) → i < count → chance_of (get_or list (first + i) 0) ≤ one

-- a column: where its cells begin and end, and they
pub record ColumnFits (n : ℕ) (list : List ℕ) (c : ℕ) : Type 0 where
  pub named : c + 1 < length list
  pub rises : get_or list c 0 ≤ get_or list (c + 1) 0
  pub cells : ColumnStored n list (get_or list c 0) (get_or list (c + 1) 0 - get_or list c 0)

-- the columns of an action
pub record ColumnsFit (n : ℕ) (list : List ℕ) (a : ℕ) : Type 0 where
  pub column : (s' : ℕ) → s' < n → ColumnFits n list (row_place n a s')
  pub limit : (s : ℕ) → s < n → (s' : ℕ) → s' < n → turned_back n list s a s' ≤ one

-- they say its T
pub record Says (n : ℕ) (cells list : List ℕ) (a : ℕ) : Type 0 where
  pub columns : ColumnsFit n list a
  pub turned : (s : ℕ) → s < n → (s' : ℕ) → s' < n → turned_back n list s a s' ≡ transition_in n cells s a s'

-- a list that is there does
abbrev pub Listed : ℕ → List ℕ → List ℕ → ℕ → Type 0
Listed n cells list a = 0 < length list → Says n cells list a

-- of all actions
abbrev pub Lists : Counts → List ℕ → List ℕ → Type 0
Lists c transition list = (a : ℕ) → a < c.actions → Listed c.states transition list a
