-- Tables whose counts are within the limits do not reach past their arrays. Assumes nothing.
--
-- In order: places that are stored; tables in full arrays; slices long enough for their counts.
use Rattle.integers.proofs.Kit.{◌≡◌, ap, true, ◌&&◌, List, ℕ, ◌≤◌, ◌<◌, ◌+◌, ◌*◌, arith, mul-le-mul, mul-le-mul_right, le-leb, leb-true, leb, length, get_or}
use Rattle.integers.proofs.Lists.{cell_below}
use Rattle.integers.proofs.Searches.{and-true, and_is}
use Rattle.tables.specs.Tables.{Tables}
use Rattle.tables.specs.Limits.{max_states, max_actions, max_observations}
use Rattle.tables.specs.Model.{Model}
use Rattle.tables.specs.Storage.{row_place, cell_place, choice_in, counts_of}
use Rattle.tables.specs.Steps.{rows_to, cells_to, Stored}
use Rattle.tables.specs.Judged.{count_within, counts_within, limits_hold, tables_stored}

-- ---- places that are stored
pub row-stored : (w r x : ℕ) {size : ℕ} → x < w → rows_to w r ≤ size → row_place w r x < size
row-stored w r x l long = omega (arith, cell_below r (r + 1) x w (let h : r < r + 1 = omega arith in h) l)

pub cell-stored : (n w a s x : ℕ) {size : ℕ} → s < n → x < w → cells_to n w a ≤ size → cell_place n w a s x < size
cell-stored n w a s x ls lx long =
    omega (arith, cell_below (row_place n a s) (rows_to n a) x w (row-stored n a s ls (let h : rows_to n a ≤ rows_to n a = omega arith in h)) lx)

-- the rows up to r are among all
pub rows-stored : (w r rows : ℕ) {size : ℕ} → r < rows → rows * w ≤ size → rows_to w r ≤ size
rows-stored w r rows l long = omega (arith, mul-le-mul_right w (let h : r + 1 ≤ rows = omega arith in h))

-- a row that is alone starts at 0
pub row-alone : (w x : ℕ) → row_place w 0 x ≡ x
row-alone w x = omega arith

-- so does what a vector chooses, of a table of one row
pub alone_at : (k : ℕ) (chosen : List ℕ) (o : ℕ) → choice_in k chosen 0 o ≡ get_or chosen o 0
alone_at k chosen o = ap (λ (i : ℕ). get_or chosen i 0) (row-alone k o)

-- ---- tables in full arrays, as a model file is read into

-- how long these are
pub record Long (m : Tables) : Type 0 where
  pub transition : length m.transition ≡ max_actions * max_states * max_states
  pub observation : length m.observation ≡ max_actions * max_states * max_observations
  pub reward : length m.reward ≡ max_actions * max_states

pub record Few (m n k : ℕ) : Type 0 where
  pub actions : m ≤ max_actions
  pub states : n ≤ max_states
  pub observations : k ≤ max_observations

pub record Sizes (m n k : ℕ) : Type 0 where
  pub rows : m * n ≤ max_actions * max_states
  pub transitions : m * n * n ≤ max_actions * max_states * max_states
  pub observed : m * n * k ≤ max_actions * max_states * max_observations

pub sizes : {m n k : ℕ} → Few m n k → Sizes m n k
sizes {m} {n} {k} f =
    let r : m * n ≤ max_actions * max_states = mul-le-mul f.actions f.states in
    record { rows = r; transitions = mul-le-mul r f.states; observed = mul-le-mul r f.observations }

pub few : (n m k : ℕ) → counts_within n m k ≡ true → Few m n k
few n m k e =
    let h = and-true (count_within max_states n) (count_within max_actions m && count_within max_observations k) e in
    let l = and-true (count_within max_actions m) (count_within max_observations k) h.1 in
    record {
      actions = leb-true _ _ (and-true (leb 1 m) (leb m max_actions) l.0).1;
      states = leb-true _ _ (and-true (leb 1 n) (leb n max_states) h.0).1;
      observations = leb-true _ _ (and-true (leb 1 k) (leb k max_observations) l.1).1;
    }

pub limits-counts : (M : Model) → limits_hold M ≡ true → counts_within M.states M.actions M.observations ≡ true
unfolding limits_hold
limits-counts M e = (and-true (counts_within M.states M.actions M.observations) _ e).0

pub limits-few : (M : Model) → limits_hold M ≡ true → Few M.actions M.states M.observations
limits-few M e = few M.states M.actions M.observations (limits-counts M e)

-- ---- slices long enough for their counts
pub stored-true : (m : Tables) → tables_stored m ≡ true → Stored (counts_of m) m.transition m.observation m.reward
stored-true m e =
    let h = and-true _ _ e in
    let l = and-true _ _ h.1 in
    record { transitions = leb-true _ _ h.0; observed = leb-true _ _ l.0; rewards = leb-true _ _ l.1 }

pub stored_is : (m : Tables) → Stored (counts_of m) m.transition m.observation m.reward → tables_stored m ≡ true
stored_is m s = and_is (le-leb _ _ s.transitions) (and_is (le-leb _ _ s.observed) (le-leb _ _ s.rewards))
