-- Transitions kept as lists: of each action's T only what is above 0, by column, as compressed sparse columns do.
--
-- A column is that of an action a and of a state s' that is reached: it has the states s with T(s,a,s') above 0, by rising s. So T is a matrix with a row for
-- each state that is left, as T(s,a,s') is written; a successor weight is a sum down one column, and a backup adds each column to the states that it has.
--
-- A list is words: where the cells of each column begin, by a and s', and where the last end; then the cells, a word each.
--
--   cell s p             a state and what T has for it, in one word
--   cells_of n t          the cells of a column t
--   cells_before n T c    the cells of the columns before c
--   list_of n m T         the list of T, of n states and m actions
--   is_list n m T list    whether a slice begins with it
--   turned_back n list    the T that a list says
use Rattle.std.specs.Prelude.{ℕ, zero, suc, ◌+◌, ◌*◌, ◌-◌, ◌/◌, ◌%◌, Bool, ◌&&◌, ◌||◌, cond, List, [], ◌∷◌, ◌++◌, leb, eqb, length, get_or}
use Rattle.integers.specs.Whole.{total_to}
use Rattle.integers.specs.Search.{every}
use Rattle.integers.specs.Cells.{listed, laid}
use Rattle.tables.specs.Tables.{Tables}
use Rattle.refusals.specs.Verdicts.{Verdict, ◌before◌, unless, is_fine, left}
use Rattle.tables.specs.Storage.{row_place, transition_in}
use Rattle.tables.specs.Judged.{tables_verdict}

-- ---- the cells

abbrev pub state_unit : ℕ
state_unit = 65536

abbrev pub cell : ℕ → ℕ → ℕ
cell s p = s * state_unit + p

abbrev pub state_of : ℕ → ℕ
state_of w = w / state_unit

abbrev pub chance_of : ℕ → ℕ
chance_of w = w % state_unit

-- a cell for what is above 0
abbrev pub kept : ℕ → ℕ → List ℕ
kept s zero = []
kept s (suc p) = cell s (suc p) ∷ []

-- by rising state
unfoldable pub cells_of : ℕ → (ℕ → ℕ) → List ℕ
cells_of zero t = []
cells_of (suc s) t = cells_of s t ++ kept s (t s)

-- column c is that of action c / n and of the state c % n that is reached
abbrev pub column_of : ℕ → (ℕ → ℕ → ℕ → ℕ) → ℕ → ℕ → ℕ
column_of n T c s = T s (c / n) (c % n)

unfoldable pub cells_before : ℕ → (ℕ → ℕ → ℕ → ℕ) → ℕ → List ℕ
cells_before n T zero = []
cells_before n T (suc c) = cells_before n T c ++ cells_of n (column_of n T c)

-- ---- the list

-- the word at which the cells of column c begin, past the m × n + 1 words that say so
abbrev pub begins : ℕ → ℕ → (ℕ → ℕ → ℕ → ℕ) → ℕ → ℕ
begins n m T c = m * n + 1 + length (cells_before n T c)

unfoldable pub list_of : ℕ → ℕ → (ℕ → ℕ → ℕ → ℕ) → List ℕ
list_of n m T = listed (m * n + 1) (begins n m T) ++ cells_before n T (m * n)

unfoldable pub is_list : ℕ → ℕ → (ℕ → ℕ → ℕ → ℕ) → List ℕ → Bool
is_list n m T list =
    leb (length (list_of n m T)) (length list) && every (length (list_of n m T)) (λ i. eqb (get_or list i 0) (get_or (list_of n m T) i 0))

-- what the cells from a word on, so many, have for a state
abbrev pub said_for : List ℕ → ℕ → ℕ → ℕ → ℕ
said_for list first count s = total_to count (λ i. let w = get_or list (first + i) 0 in cond (eqb (state_of w) s) (chance_of w) 0)

-- T(s,a,s') as a list says it: what the cells of its column have for s
unfoldable pub turned_back : ℕ → List ℕ → ℕ → ℕ → ℕ → ℕ
turned_back n list s a s' =
    let c = row_place n a s' in
    said_for list (get_or list c 0) (get_or list (c + 1) 0 - get_or list c 0) s

-- ---- making a list, and handing one in

-- 3, 5 and 6 of the tables; then 9 where the slice is too short for the list
unfoldable pub list_verdict : Tables → List ℕ → Verdict
list_verdict m list =
    tables_verdict m before unless (leb (length (list_of m.states m.actions (transition_in m.states m.transition))) (length list)) 9 0

-- the list is laid over the slice
unfoldable pub listed_of : Tables → List ℕ → List ℕ
listed_of m list =
    let L : List ℕ = list_of m.states m.actions (transition_in m.states m.transition) in
    left (list_verdict m list) (laid (length L) (λ i. get_or L i 0) list) list

-- a slice that is handed in with tables is empty, where no list is meant; or the tables are accepted, and it has their list
abbrev pub list_holds : Tables → List ℕ → Bool
list_holds m list =
    eqb (length list) 0
    || (is_fine (tables_verdict m) && is_list m.states m.actions (transition_in m.states m.transition) list)

-- 7, before all else, where it is neither
abbrev pub handed_list : Tables → List ℕ → Verdict
handed_list m list = unless (list_holds m list) 7 0
