-- What an offer is refused for, 7 to 15 and 21, in checking order; each number is tested throughout before the next.
use Rattle.std.specs.Prelude.{ℕ, ◌+◌, ◌*◌, Bool, not, ◌&&◌, ◌||◌, List, leb, ltb, eqb, length, ℤ, nat_abs}
use Rattle.std.specs.Int.Signed.{le_z}
use Rattle.integers.specs.Whole.{◌·◌, total_to}
use Rattle.integers.specs.Search.{every}
use Rattle.tables.specs.Tables.{Tables}
use Rattle.refusals.specs.Verdicts.{Verdict, ◌before◌, unless, first_of, is_fine}
use Rattle.tables.specs.Limits.{max_vectors, K, max_levels}
use Rattle.tables.specs.Model.{Model, backup}
use Rattle.tables.specs.Storage.{entry_in, model_of}
use Rattle.tables.specs.Judged.{count_within, tables_verdict}
use Rattle.plans.specs.Limits.{max_points, max_total, range}
use Rattle.plans.specs.Level.{Level, backup_at, corner_weight, follows}
use Rattle.levels.specs.Storage.{LentLevel, Lent, state_size, level_of, readable, complete, number_in, standing_in, lent_for}

-- ---- a level by itself

-- 9: no vector, more vectors than a level may have, or over 32 points
abbrev pub counts_hold : ℕ → ℕ → ℕ → Bool
counts_hold most vectors points = count_within most vectors && leb points max_points

-- the first row, of width w, with a number outside ± limit
unfoldable pub rows_within : ℕ → ℕ → ℕ → ℕ → (ℕ → ℕ → ℤ) → Verdict
rows_within number rows w limit cell = first_of rows (λ r. first_of w (λ x. unless (leb (nat_abs (cell r x)) limit) number r))

-- what the weights of a point total: 1 to 100
abbrev pub total_holds : ℕ → Bool
total_holds total = count_within max_total total

-- the value of a point whose weights total so much lies within ± that total × limit; it is passed over where the total is outside 1 to 100
abbrev pub value_holds : ℕ → ℕ → ℤ → Bool
value_holds total limit value = not (total_holds total) || leb (nat_abs value) (total * limit)

-- the first point whose value does not
unfoldable pub values_within : ℕ → ℕ → ℕ → (ℕ → ℕ → ℕ) → (ℕ → ℤ) → Verdict
values_within n points limit weight value = first_of points (λ i. unless (value_holds (total_to n (weight i)) limit (value i)) 11 i)

-- 11: entries, then corners, then point values, each within its range at level t
unfoldable pub ranges_verdict : ℕ → ℕ → Level → Verdict
ranges_verdict n t W =
    rows_within 11 W.vectors n (range t) W.entry
    before rows_within 11 n 1 (range t) (λ s x. W.corner s)
    before values_within n W.points (range t) W.weight W.value

-- 12: the total of a point's weights is outside 1 to 100
unfoldable pub weights_verdict : ℕ → ℕ → (ℕ → ℕ → ℕ) → Verdict
weights_verdict n points weight = first_of points (λ i. unless (total_holds (total_to n (weight i))) 12 i)

abbrev pub actions_exist : ℕ → ℕ → (ℕ → ℕ) → Bool
actions_exist m vectors action = every vectors (λ v. ltb (action v) m)

-- ---- a level W that is offered over the standing level L

-- the first vector, or node of a plan graph, of which the action or a choice does not exist
unfoldable pub numbers_in : ℕ → ℕ → ℕ → ℕ → ℕ → (ℕ → ℕ) → (ℕ → ℕ → ℕ) → Verdict
numbers_in number vectors m k standing action choice =
    first_of vectors (λ v. unless (ltb (action v) m) number v before first_of k (λ o. unless (ltb (choice v o) standing) number v))

-- 10: an action or a chosen vector does not exist
abbrev pub numbers_verdict : ℕ → ℕ → ℕ → Level → Verdict
numbers_verdict m k standing W = numbers_in 10 W.vectors m k standing W.action W.choice

-- 10 to 12: a level by itself, offered as level t of a model with n states, m actions and k observations, over so many standing vectors
unfoldable pub level_verdict : ℕ → ℕ → ℕ → ℕ → ℕ → Level → Verdict
level_verdict n m k t standing W =
    numbers_verdict m k standing W before ranges_verdict n t W before weights_verdict n W.points W.weight

-- whether the vectors chosen for the observations cover each state that is reached, with T × O above 0, from a covered one
abbrev pub reached_covered : Model → Level → (ℕ → Bool) → ℕ → (ℕ → ℕ) → Bool
reached_covered M L covers a choice =
    every M.states (λ s. not (covers s)
    || every M.observations (λ o. every M.states (λ s'. eqb (M.transition s a s' * M.observation a s' o) 0 || L.covers (choice o) s')))

-- 21: a covered state reaches one that the chosen vector does not cover
unfoldable pub masks_verdict : Model → Level → Level → Verdict
masks_verdict M L W = first_of W.vectors (λ v. unless (reached_covered M L (W.covers v) (W.action v) (W.choice v)) 21 v)

-- 13: a vector entry exceeds its backup, at a state that the vector covers
unfoldable pub floors_verdict : Model → Level → Level → Verdict
floors_verdict M L W =
    first_of W.vectors (λ v. first_of M.states
    (λ s. unless (not (W.covers v s) || le_z (K · W.entry v s) (backup M (W.action v) (follows L (W.choice v)) s)) 13 v))

-- whether a value at weights p is at least every action's backup
abbrev pub covers_backups : Model → Level → (ℕ → ℕ) → ℤ → Bool
covers_backups M L p w = every M.actions (λ a. le_z (backup_at M L p a) (K · w))

-- 14: a corner is below its backup
unfoldable pub corners_verdict : Model → Level → Level → Verdict
corners_verdict M L W = first_of M.states (λ s. unless (covers_backups M L (corner_weight s) (W.corner s)) 14 s)

-- 15: a point is below its backup
unfoldable pub points_verdict : Model → Level → Level → Verdict
points_verdict M L W = first_of W.points (λ i. unless (covers_backups M L (W.weight i) (W.value i)) 15 i)

-- 21, then 13 to 15: the masks and the backup inequalities
unfoldable pub backups_verdict : Model → Level → Level → Verdict
backups_verdict M L W = masks_verdict M L W before floors_verdict M L W before corners_verdict M L W before points_verdict M L W

-- ---- an offer to a certifier whose levels have at most so many vectors

-- rows of m actions and n states are there, and keep to a vector entry's range at level t
abbrev pub rows_hold : ℕ → ℕ → ℕ → List ℤ → Bool
rows_hold m n t cells = leb (m * n) (length cells) && is_fine (rows_within 7 m n (range t) (entry_in n cells))

-- 7: the tables, the standing level or the rows break a limit of 3, 5, 6, 9, 11 or 12 or name an action that does not exist, or the level is over 100; or
-- a slice is too short for them
unfoldable pub holds_up_to : ℕ → Tables → Lent → Bool
holds_up_to most m x =
    let M : Model = model_of m in
    let L : Level = level_of m (standing_in x) in
    is_fine (tables_verdict m)
    && (leb state_size (length x.state)
    && (leb (number_in x) max_levels
    && (counts_hold most L.vectors L.points
    && (readable m (standing_in x)
    && (actions_exist M.actions L.vectors L.action
    && (is_fine (ranges_verdict M.states (number_in x) L)
    && (is_fine (weights_verdict M.states L.points L.weight)
    && (rows_hold m.actions m.states (number_in x) x.rows.informed
    && rows_hold m.actions m.states (number_in x) x.rows.qmdp))))))))

-- 9: no vector, too many vectors or points, or a slice too short for them: of the level that is offered, or of the certifier that is to hold it
abbrev pub fits : ℕ → Tables → Lent → LentLevel → Bool
fits most m x l = counts_hold most l.vectors l.points && (complete m l && complete m (lent_for l.vectors l.points x.cells))

-- 7 to 12: the certifier and the offered level by themselves; 7, 8 and 9 have no place
unfoldable pub shape_up_to : ℕ → Tables → Lent → LentLevel → Verdict
shape_up_to most m x l =
    unless (holds_up_to most m x) 7 0
    before unless (ltb (number_in x) max_levels) 8 0
    before unless (fits most m x l) 9 0
    before level_verdict m.states m.actions m.observations (number_in x + 1) (standing_in x).vectors (level_of m l)

-- 7 to 15 and 21, of which 21 and 13 to 15 are tested over a model M
abbrev pub offer_over : Model → ℕ → Tables → Lent → LentLevel → Verdict
offer_over M most m x l = shape_up_to most m x l before backups_verdict M (level_of m (standing_in x)) (level_of m l)

-- the model of the tables
unfoldable pub offer_up_to : ℕ → Tables → Lent → LentLevel → Verdict
offer_up_to most m x l = offer_over (model_of m) most m x l

-- a level of this certifier has at most max_vectors
abbrev pub holds : Tables → Lent → Bool
holds = holds_up_to max_vectors

abbrev pub shape_verdict : Tables → Lent → LentLevel → Verdict
shape_verdict = shape_up_to max_vectors

abbrev pub offer_verdict : Tables → Lent → LentLevel → Verdict
offer_verdict = offer_up_to max_vectors
