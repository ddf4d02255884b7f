-- From storage to a level: rows packed by the counts, as the model's tables are. Every contract speaks through these.
--
--   choices by v, o     entries by v, s     weights by i, s     actions, masks, corners, values by their one index
use Rattle.std.specs.Prelude.{ℕ, ◌*◌, Bool, ◌&&◌, List, [], leb, length, get_or, ℤ, pos}
use Rattle.integers.specs.Cells.{laid, laid_rows}
use Rattle.tables.specs.Tables.{Tables}
use Rattle.tables.specs.Storage.{row_place, entry_in, choice_in}
use Rattle.masks.specs.Masks.{mask_of, covered_in, masked_in}
use Rattle.plans.specs.Level.{Level}
use Rattle.levels.specs.declared.Standing.{Standing}

-- ---- a level in slices

-- the slices of a level, one for each kind of number
pub record Cells : Type 0 where
  pub actions : List ℕ
  pub choices : List ℕ
  pub masks : List ℕ
  pub entries : List ℤ
  pub corners : List ℤ
  pub weights : List ℕ
  pub values : List ℤ

abbrev pub cells : List ℕ → List ℕ → List ℕ → List ℤ → List ℤ → List ℕ → List ℤ → Cells
cells actions choices masks entries corners weights values =
    record { actions = actions; choices = choices; masks = masks; entries = entries; corners = corners; weights = weights; values = values }

-- a level as it is handed in
pub record LentLevel : Type 0 where
  pub vectors : ℕ
  pub points : ℕ
  pub cells : Cells

abbrev pub corner_in : List ℤ → ℕ → ℤ
corner_in cells s = get_or cells s (pos 0)

-- the weights of point i
abbrev pub point_in : ℕ → List ℕ → ℕ → ℕ → ℕ
point_in n cells i s = get_or cells (row_place n i s) 0

-- the level that is read by the counts from its parts, of a model with n states and k observations; entries at states that are not covered are unread
abbrev pub level_in : ℕ → ℕ → ℕ → List ℕ → List ℕ → List ℕ → List ℤ → List ℤ → ℕ → List ℕ → List ℤ → Level
level_in n k vectors actions choices masks entries corners points weights values = record {
  vectors = vectors;
  action = λ v. get_or actions v 0;
  choice = choice_in k choices;
  covers = covered_in masks;
  entry = masked_in n masks entries;
  corner = corner_in corners;
  points = points;
  weight = point_in n weights;
  value = λ i. get_or values i (pos 0);
}

-- the level that is handed in with tables
abbrev pub level_of : Tables → LentLevel → Level
level_of m l =
    level_in m.states m.observations l.vectors l.cells.actions l.cells.choices l.cells.masks l.cells.entries
    l.cells.corners l.points l.cells.weights l.cells.values

-- a level of which only the vectors are read, and one of which only the corners and points are
abbrev pub floor_in : ℕ → ℕ → ℕ → List ℕ → List ℕ → List ℕ → List ℤ → Level
floor_in n k vectors actions choices masks entries = level_in n k vectors actions choices masks entries [] 0 [] []

abbrev pub roof_in : ℕ → List ℤ → ℕ → List ℕ → List ℤ → Level
roof_in n corners points weights values = level_in n 0 1 [] [] [] [] corners points weights values

-- slices of such lengths are long enough for what is read of a level once it stands; its choices are not
abbrev pub long_enough : ℕ → ℕ → ℕ → ℕ → ℕ → ℕ → ℕ → ℕ → ℕ → Bool
long_enough n vectors points actions masks entries corners weights values =
    leb vectors actions
    && (leb vectors masks && (leb (vectors * n) entries && (leb n corners && (leb (points * n) weights && leb points values))))

abbrev pub readable : Tables → LentLevel → Bool
readable m l =
    let x : Cells = l.cells in
    long_enough m.states l.vectors l.points (length x.actions) (length x.masks) (length x.entries) (length x.corners)
    (length x.weights) (length x.values)

-- the slices are long enough for all of a level
abbrev pub complete : Tables → LentLevel → Bool
complete m l = leb (l.vectors * m.observations) (length l.cells.choices) && readable m l

-- the slices with a level laid over them; what lies past it stays
unfoldable pub over : Tables → Level → Cells → Cells
over m W x = record {
  actions = laid W.vectors W.action x.actions;
  choices = laid_rows W.vectors m.observations W.choice x.choices;
  masks = laid W.vectors (λ v. mask_of m.states (W.covers v)) x.masks;
  entries = laid_rows W.vectors m.states W.entry x.entries;
  corners = laid m.states W.corner x.corners;
  weights = laid_rows W.points m.states W.weight x.weights;
  values = laid W.points W.value x.values;
}

-- ---- a certifier in slices

-- the slices of its upper bounds by rows, each by action and state
pub record Rows : Type 0 where
  pub informed : List ℤ
  pub qmdp : List ℤ

abbrev pub rows : List ℤ → List ℤ → Rows
rows informed qmdp = record { informed = informed; qmdp = qmdp }

-- what a certifier has lent: the number of levels that were accepted with the vectors and points of the last of them, that level's slices, and its rows
pub record Lent : Type 0 where
  pub state : List ℕ
  pub cells : Cells
  pub rows : Rows

abbrev pub lent : List ℕ → Cells → Rows → Lent
lent state x r = record { state = state; cells = x; rows = r }

-- slices of such lengths are long enough for rows of m actions and n states
abbrev pub long_rows : ℕ → ℕ → ℕ → ℕ → Bool
long_rows m n informed qmdp = leb (m * n) informed && leb (m * n) qmdp

-- the slices with rows F and Q laid over them
abbrev pub over_rows : Tables → (ℕ → ℕ → ℤ) → (ℕ → ℕ → ℤ) → Rows → Rows
over_rows m F Q r = rows (laid_rows m.actions m.states F r.informed) (laid_rows m.actions m.states Q r.qmdp)

-- the numbers of a certifier's state
abbrev pub state_size : ℕ
state_size = 3

abbrev pub standing_at : List ℕ → Standing
standing_at state = record { number = get_or state 0 0; vectors = get_or state 1 0; points = get_or state 2 0 }

abbrev pub number_in : Lent → ℕ
number_in x = (standing_at x.state).number

abbrev pub standing_in : Lent → LentLevel
standing_in x = record { vectors = (standing_at x.state).vectors; points = (standing_at x.state).points; cells = x.cells }

-- its informed and its QMDP rows
abbrev pub informed_in : Tables → Lent → ℕ → ℕ → ℤ
informed_in m x = entry_in m.states x.rows.informed

abbrev pub qmdp_in : Tables → Lent → ℕ → ℕ → ℤ
qmdp_in m x = entry_in m.states x.rows.qmdp

-- level 0: one vector, no points
abbrev pub fresh_standing : Standing
fresh_standing = record { number = 0; vectors = 1; points = 0 }

-- slices of a level of so many vectors and points: handed in with it, or lent for it
abbrev pub lent_for : ℕ → ℕ → Cells → LentLevel
lent_for vectors points x = record { vectors = vectors; points = points; cells = x }
