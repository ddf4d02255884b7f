-- Laws of lists: where each word lies, what it has, and that a list turned back is T. Assumes nothing.
--
--   cells_at, cells-all    the cell of a state, and what each cell of a column has
--   begins-at, cell_at     the words of a list
--   is-list, short-list    the words of a slice that has it; a slice that is too short for it
--   in_parts               as it is tested
--   turned-back            turned back, it is T
--   list-says              what the engine asks of it
use Rattle.integers.proofs.Kit.{◌≡◌, ◌∙◌, refl, ap, sym, true, false, Bool, cond, ◌&&◌, List, [], ◌∷◌, ℕ, ◌≤◌, ◌<◌, ◌+◌, ◌*◌, ◌-◌, suc, zero}
use Rattle.integers.proofs.Kit.{arith, add-zero, zero-add, add-one, dec_lt, length, get_or, eqb, eq-eqb, ne_eqb, eqb-true, leb, leb-true, le-leb, lt-leb}
use mathlib.Core.List.{◌++◌, append-nil}
use native.Mathlib.Decide.{dec_le}
use lib.ListN.{length-append, get_or-append}
use lib.Seq.{get_or-append-add, get_or-append_seam}
use lib.Arith.{digits_div, digits_mod}
use Rattle.integers.specs.Whole.{total_to}
use Rattle.integers.specs.Search.{every}
use Rattle.integers.specs.Cells.{listed}
use Rattle.integers.proofs.Lists.{length-listed, get_or-listed, cell_below}
use Rattle.integers.proofs.Searches.{and-true, every-at, every-add, every-cong}
use Rattle.integers.proofs.Sums.{total-cong, total-more, total-none}
use Rattle.tables.specs.Limits.{one}
use Rattle.tables.specs.Storage.{row_place, transition_in}
use Rattle.columns.specs.Columns.{state_unit, cell, state_of, chance_of, kept, cells_of, column_of, cells_before, begins, list_of, is_list, turned_back}
use Rattle.columns.specs.Steps.{ColumnFits, Says}

-- ---- a cell
pub state-of : (s p : ℕ) → p < state_unit → state_of (cell s p) ≡ s
state-of s p h = digits_div s h

pub chance-of : (s p : ℕ) → p < state_unit → chance_of (cell s p) ≡ p
chance-of s p h = digits_mod s h

-- what a word has for a state
abbrev chance_for : ℕ → ℕ → ℕ
chance_for s w = cond (eqb (state_of w) s) (chance_of w) 0

for-same : (s p : ℕ) → p < state_unit → chance_for s (cell s p) ≡ p
for-same s p h = rw (eq-eqb _ _ (state-of s p h)) (chance-of s p h)

for-other : (r s p : ℕ) → p < state_unit → (r ≡ s → ⊥) → chance_for s (cell r p) ≡ 0
for-other r s p h d = rw (ne_eqb _ _ (λ e. d (sym (state-of r p h) ∙ e))) refl

-- whether a slice has cell i of those that should lie from a word on
abbrev pub same : List ℕ → ℕ → List ℕ → ℕ → Bool
same list at cells i = eqb (get_or list (at + i) 0) (get_or cells i 0)

-- ---- one column
module _ (t : ℕ → ℕ) where
  -- one state more: a cell more where T is above 0, else none
  pub cells-none : (s : ℕ) → t s ≡ 0 → cells_of (s + 1) t ≡ cells_of s t
  unfolding cells_of
  cells-none s e = rw (add-one, e) (append-nil (cells_of s t))

  pub cells-some : (s : ℕ) → 0 < t s → cells_of (s + 1) t ≡ cells_of s t ++ (cell s (t s) ∷ [])
  unfolding cells_of
  cells-some s h = rw add-one (ap (λ (l : List ℕ). cells_of s t ++ l) (by (t s) h))
    where
      by : (p : ℕ) → 0 < p → kept s p ≡ cell s p ∷ []
      by zero l = absurd (omega arith)
      by (suc p) l = refl

  pub length_some : (s : ℕ) → 0 < t s → length (cells_of (s + 1) t) ≡ length (cells_of s t) + 1
  length_some s h = ap length (cells-some s h) ∙ length-append (cells_of s t) (cell s (t s) ∷ [])

  -- whatever holds of none, and one state more keeps
  cells-ind : (P : ℕ → Type 0) → P 0 → ((s : ℕ) → t s ≡ 0 → P s → P (s + 1)) → ((s : ℕ) → 0 < t s → P s → P (s + 1)) → (n : ℕ) → P n
  cells-ind P base none some zero = base
  cells-ind P base none some (suc n) = rw (add-one n) at (by (t n) refl (cells-ind P base none some n))
    where
      by : (p : ℕ) → t n ≡ p → P n → P (n + 1)
      by zero e h = none n e h
      by (suc p) e h = some n (rw e (omega arith)) h

  pub cells-few : (n : ℕ) → length (cells_of n t) ≤ n
  unfolding cells_of
  cells-few =
      cells-ind (λ n. length (cells_of n t) ≤ n) (omega arith) (λ s e h. rw (cells-none s e) (omega (arith, h)))
      (λ s l h. rw (length_some s l) (omega (arith, h)))

  -- what a column has of its first states stays at its places
  pub cells-shorter : (s n : ℕ) → s ≤ n → length (cells_of s t) ≤ length (cells_of n t)
  unfolding cells_of
  cells-shorter s zero l = let e : s ≡ 0 = omega arith in rw e (omega arith)
  cells-shorter s (suc n) l = by (dec_le s n) (λ h. cells-shorter s n h)
    where
      by : Dec (s ≤ n) → (s ≤ n → length (cells_of s t) ≤ length (cells_of n t)) → length (cells_of s t) ≤ length (cells_of n t ++ kept n (t n))
      by (yes h) r = omega (arith, r h, length-append (cells_of n t) (kept n (t n)))
      by (no h) r = let e : s ≡ suc n = omega arith in rw e (omega arith)

  cells-kept : (s n : ℕ) → s ≤ n → (i : ℕ) → i < length (cells_of s t) → get_or (cells_of n t) i 0 ≡ get_or (cells_of s t) i 0
  unfolding cells_of
  cells-kept s zero l i b = let e : s ≡ 0 = omega arith in rw e refl
  cells-kept s (suc n) l i b = by (dec_le s n) (λ h. cells-kept s n h i b)
    where
      by : Dec (s ≤ n) → (s ≤ n → get_or (cells_of n t) i 0 ≡ get_or (cells_of s t) i 0) → get_or (cells_of n t ++ kept n (t n)) i 0 ≡ get_or (cells_of s t) i 0
      by (yes h) r = get_or-append (cells_of n t) (kept n (t n)) 0 i (omega (arith, b, cells-shorter s n h)) ∙ r h
      by (no h) r = let e : s ≡ suc n = omega arith in rw e refl

  -- the cell of a state lies behind those of the states before it
  pub cells_at : (s n : ℕ) → s < n → 0 < t s → get_or (cells_of n t) (length (cells_of s t)) 0 ≡ cell s (t s)
  cells_at s n l h =
      cells-kept (s + 1) n (omega arith) (length (cells_of s t)) (rw (length_some s h) (omega arith))
      ∙ ap (λ (xs : List ℕ). get_or xs (length (cells_of s t)) 0) (cells-some s h)
      ∙ get_or-append_seam (cells_of s t) (cell s (t s)) [] 0

  pub cells-below : (s n : ℕ) → s < n → 0 < t s → length (cells_of s t) < length (cells_of n t)
  cells-below s n l h = omega (arith, length_some s h, cells-shorter (s + 1) n (omega arith))

  -- what holds of the cell of every state holds of each
  pub cells-all : (P : ℕ → Type 0) (n : ℕ) → ((s : ℕ) → s < n → 0 < t s → P (cell s (t s)))
      → (i : ℕ) → i < length (cells_of n t) → P (get_or (cells_of n t) i 0)
  unfolding cells_of
  cells-all P zero h i b = absurd (omega arith)
  cells-all P (suc n) h i b =
      by (dec_lt i (length (cells_of n t))) (λ l. cells-all P n (λ s k. h s (omega arith)) i l) (t n) refl b
    where
      by : Dec (i < length (cells_of n t)) → (i < length (cells_of n t) → P (get_or (cells_of n t) i 0)) → (p : ℕ) → t n ≡ p
          → i < length (cells_of n t ++ kept n p) → P (get_or (cells_of n t ++ kept n p) i 0)
      by (yes l) r p e k = rw (get_or-append (cells_of n t) (kept n p) 0 i l) (r l)
      by (no l) r zero e k = absurd (omega (arith, k, length-append (cells_of n t) []))
      by (no l) r (suc p) e k =
          let same : i ≡ length (cells_of n t) = omega (arith, k, length-append (cells_of n t) (cell n (suc p) ∷ [])) in
          rw (same, get_or-append_seam (cells_of n t) (cell n (suc p)) [] 0) (rw e at (h n (omega arith) (rw e (omega arith))))

  -- what its cells have for a state is what T has there, and nothing for states that they do not reach
  module _ (most : ℕ) (small : (s : ℕ) → s < most → t s < state_unit) (s : ℕ) where
    abbrev said : List ℕ → ℕ
    said xs = total_to (length xs) (λ i. chance_for s (get_or xs i 0))

    said_more : (xs : List ℕ) (w : ℕ) → said (xs ++ (w ∷ [])) ≡ said xs + chance_for s w
    said_more xs w =
        ap (λ (k : ℕ). total_to k (λ i. chance_for s (get_or (xs ++ (w ∷ [])) i 0))) (length-append xs (w ∷ []))
        ∙ total-more (length xs) _
        ∙ rw (total-cong (length xs) _ _ (λ i l. ap (chance_for s) (get_or-append xs (w ∷ []) 0 i l)), get_or-append_seam xs w [] 0) refl

    said-out : (n : ℕ) → n ≤ most → n ≤ s → said (cells_of n t) ≡ 0
    unfolding cells_of
    said-out =
        cells-ind (λ n. n ≤ most → n ≤ s → said (cells_of n t) ≡ 0) (λ few l. total-none _)
        (λ r e h few l. rw (cells-none r e) (h (omega arith) (omega arith)))
        (λ r k h few l. ap said (cells-some r k) ∙ said_more (cells_of r t) (cell r (t r))
        ∙ rw (h (omega arith) (omega arith), for-other r s (t r) (small r (omega arith)) (λ e. let n : ⊥ = omega arith in n)) refl)

    pub said_in : (n : ℕ) → n ≤ most → s < n → said (cells_of n t) ≡ t s
    unfolding cells_of
    said_in =
        cells-ind (λ n. n ≤ most → s < n → said (cells_of n t) ≡ t s) (λ few l. absurd (omega arith))
        (λ r e h few l. rw (cells-none r e) (none r e (dec_lt s r) h few l))
        (λ r k h few l. ap said (cells-some r k) ∙ said_more (cells_of r t) (cell r (t r)) ∙ some r (dec_lt s r) h few l)
      where
        none : (r : ℕ) → t r ≡ 0 → Dec (s < r) → (r ≤ most → s < r → said (cells_of r t) ≡ t s) → r + 1 ≤ most → s < r + 1
            → said (cells_of r t) ≡ t s
        none r e (yes d) h few l = h (omega arith) d
        none r e (no d) h few l = let same : r ≡ s = omega arith in said-out r (omega arith) (omega arith) ∙ sym e ∙ ap t same

        some : (r : ℕ) → Dec (s < r) → (r ≤ most → s < r → said (cells_of r t) ≡ t s) → r + 1 ≤ most → s < r + 1
            → said (cells_of r t) + chance_for s (cell r (t r)) ≡ t s
        some r (yes d) h few l =
            rw (h (omega arith) d, for-other r s (t r) (small r (omega arith)) (λ e. let n : ⊥ = omega arith in n)) (add-zero (t s))
        some r (no d) h few l =
            let same : r ≡ s = omega arith in
            rw (said-out r (omega arith) (omega arith), same, for-same s (t s) (small s (omega arith))) (zero-add (t s))

-- ---- the columns one after the other
module _ (n : ℕ) (T : ℕ → ℕ → ℕ → ℕ) where
  pub before_more : (c : ℕ) → cells_before n T (c + 1) ≡ cells_before n T c ++ cells_of n (column_of n T c)
  unfolding cells_before
  before_more c = rw add-one

  pub length_before : (c : ℕ) → length (cells_before n T (c + 1)) ≡ length (cells_before n T c) + length (cells_of n (column_of n T c))
  length_before c = ap length (before_more c) ∙ length-append (cells_before n T c) (cells_of n (column_of n T c))

  pub before-few : (c : ℕ) → length (cells_before n T c) ≤ c * n
  unfolding cells_before
  before-few zero = omega arith
  before-few (suc c) =
      omega (arith, before-few c, cells-few (column_of n T c) n, length-append (cells_before n T c) (cells_of n (column_of n T c)))

  pub before-shorter : (c k : ℕ) → c ≤ k → length (cells_before n T c) ≤ length (cells_before n T k)
  unfolding cells_before
  before-shorter c zero l = let e : c ≡ 0 = omega arith in rw e (omega arith)
  before-shorter c (suc k) l = by (dec_le c k) (λ h. before-shorter c k h)
    where
      by : Dec (c ≤ k) → (c ≤ k → length (cells_before n T c) ≤ length (cells_before n T k))
          → length (cells_before n T c) ≤ length (cells_before n T k ++ cells_of n (column_of n T k))
      by (yes h) r = omega (arith, r h, length-append (cells_before n T k) (cells_of n (column_of n T k)))
      by (no h) r = let e : c ≡ suc k = omega arith in rw e (omega arith)

  before-kept : (c k : ℕ) → c ≤ k → (i : ℕ) → i < length (cells_before n T c) → get_or (cells_before n T k) i 0 ≡ get_or (cells_before n T c) i 0
  unfolding cells_before
  before-kept c zero l i b = let e : c ≡ 0 = omega arith in rw e refl
  before-kept c (suc k) l i b = by (dec_le c k) (λ h. before-kept c k h i b)
    where
      by : Dec (c ≤ k) → (c ≤ k → get_or (cells_before n T k) i 0 ≡ get_or (cells_before n T c) i 0)
          → get_or (cells_before n T k ++ cells_of n (column_of n T k)) i 0 ≡ get_or (cells_before n T c) i 0
      by (yes h) r = get_or-append (cells_before n T k) (cells_of n (column_of n T k)) 0 i (omega (arith, b, before-shorter c k h)) ∙ r h
      by (no h) r = let e : c ≡ suc k = omega arith in rw e refl

  -- the cells of column c lie behind those of the columns before it
  pub before_at : (c k : ℕ) → c < k → (i : ℕ) → i < length (cells_of n (column_of n T c))
      → get_or (cells_before n T k) (length (cells_before n T c) + i) 0 ≡ get_or (cells_of n (column_of n T c)) i 0
  before_at c k l i b =
      before-kept (c + 1) k (omega arith) (length (cells_before n T c) + i) (rw (length_before c) (omega (arith, b)))
      ∙ ap (λ (xs : List ℕ). get_or xs (length (cells_before n T c) + i) 0) (before_more c)
      ∙ get_or-append-add (cells_before n T c) (cells_of n (column_of n T c)) i 0

  -- ---- the words of the list
  module _ (m : ℕ) where
    pub list_length : length (list_of n m T) ≡ begins n m T (m * n)
    unfolding list_of
    list_length =
        length-append (listed (m * n + 1) (begins n m T)) (cells_before n T (m * n))
        ∙ ap (λ (k : ℕ). k + length (cells_before n T (m * n))) (length-listed (m * n + 1) (begins n m T))

    -- the next column's cells begin behind a column's
    pub begins-more : (c : ℕ) {at k : ℕ} → at ≡ begins n m T c → k ≡ length (cells_of n (column_of n T c)) → at + k ≡ begins n m T (c + 1)
    begins-more c e f = omega (arith, e, f, length_before c)

    pub begins-at : (c : ℕ) → c ≤ m * n → get_or (list_of n m T) c 0 ≡ begins n m T c
    unfolding list_of
    begins-at c l =
        let b : c < m * n + 1 = omega arith in
        get_or-append (listed (m * n + 1) (begins n m T)) (cells_before n T (m * n)) 0 c (rw (length-listed (m * n + 1) (begins n m T)) b)
        ∙ get_or-listed (m * n + 1) (begins n m T) c 0 b

    -- behind them lie the cells
    pub cells-from : (i : ℕ) → get_or (list_of n m T) (m * n + 1 + i) 0 ≡ get_or (cells_before n T (m * n)) i 0
    unfolding list_of
    cells-from i =
        let starts = listed (m * n + 1) (begins n m T) in
        ap (λ (k : ℕ). get_or (starts ++ cells_before n T (m * n)) (k + i) 0) (sym (length-listed (m * n + 1) (begins n m T)))
        ∙ get_or-append-add starts (cells_before n T (m * n)) i 0

    pub cell_at : (c : ℕ) → c < m * n → (i : ℕ) → i < length (cells_of n (column_of n T c))
        → get_or (list_of n m T) (begins n m T c + i) 0 ≡ get_or (cells_of n (column_of n T c)) i 0
    cell_at c l i b =
        let place : begins n m T c + i ≡ m * n + 1 + (length (cells_before n T c) + i) = omega arith in
        rw place (cells-from (length (cells_before n T c) + i)) ∙ before_at c (m * n) l i b

    pub begins-within : (c : ℕ) → c < m * n → begins n m T c + length (cells_of n (column_of n T c)) ≤ length (list_of n m T)
    begins-within c l = omega (arith, list_length, length_before c, before-shorter (c + 1) (m * n) (omega arith))

    -- ---- a slice that has it, and one that has not
    module _ (list : List ℕ) where
      pub is-list : is_list n m T list ≡ true
          → (length (list_of n m T) ≤ length list) × ((i : ℕ) → i < length (list_of n m T) → get_or list i 0 ≡ get_or (list_of n m T) i 0)
      unfolding is_list
      is-list e =
          let h = and-true (leb (length (list_of n m T)) (length list)) _ e in
          (leb-true _ _ h.0, λ i l. eqb-true _ _ (every-at (length (list_of n m T)) _ h.1 i l))

      pub short-list : length list < length (list_of n m T) → is_list n m T list ≡ false
      unfolding is_list
      short-list l = rw (lt-leb _ _ l) refl

      -- one that is long enough has it where the words that say where the columns begin are right, and the cells
      pub in_parts : {starts cells : Bool} → length (list_of n m T) ≤ length list
          → starts ≡ every (m * n + 1) (λ c. eqb (get_or list c 0) (begins n m T c))
          → (let all = cells_before n T (m * n) in cells ≡ every (length all) (same list (m * n + 1) all))
          → is_list n m T list ≡ (starts && cells)
      unfolding is_list
      in_parts l e f =
          let all = cells_before n T (m * n) in
          let word : ℕ → Bool = λ i. eqb (get_or list i 0) (get_or (list_of n m T) i 0) in
          rw (le-leb _ _ l) refl
          ∙ ap (λ (k : ℕ). every k word) list_length
          ∙ every-add (m * n + 1) (length all) word
          ∙ ap (λ (b : Bool). b && every (length all) (λ i. word (m * n + 1 + i)))
          (every-cong (m * n + 1) _ _ (λ c b. ap (eqb (get_or list c 0)) (begins-at c (omega arith))) ∙ sym e)
          ∙ rw (every-cong (length all) _ _ (λ i b. ap (eqb (get_or list (m * n + 1 + i) 0)) (cells-from i)) ∙ sym f) refl

-- ---- turned back
-- In a slice that has the list, the words of column c are those of the list: where its cells begin and end, and its cells. Each is that of a state with T
-- above 0, and for each state they have what T has there. Qed.
module _ (n m : ℕ) (cells list : List ℕ) (e : is_list n m (transition_in n cells) list ≡ true) where
  abbrev T : ℕ → ℕ → ℕ → ℕ
  T = transition_in n cells

  words : (i : ℕ) → i < length (list_of n m T) → get_or list i 0 ≡ get_or (list_of n m T) i 0
  words = (is-list n T m list e).1

  module _ (c : ℕ) (l : c < m * n) where
    abbrev column : ℕ → ℕ
    column = column_of n T c

    first-is : get_or list c 0 ≡ begins n m T c
    first-is = words c (omega (arith, list_length n T m)) ∙ begins-at n T m c (omega arith)

    end_is : get_or list (c + 1) 0 ≡ begins n m T c + length (cells_of n column)
    end_is = words (c + 1) (omega (arith, list_length n T m)) ∙ begins-at n T m (c + 1) (omega arith) ∙ omega (arith, length_before n T c)

    count-is : get_or list (c + 1) 0 - get_or list c 0 ≡ length (cells_of n column)
    count-is = omega (arith, first-is, end_is)

    word-is : (i : ℕ) → i < length (cells_of n column) → get_or list (get_or list c 0 + i) 0 ≡ get_or (cells_of n column) i 0
    word-is i b = rw first-is (words (begins n m T c + i) (omega (arith, b, begins-within n T m c l))) ∙ cell_at n T m c l i b

    module _ (small : (s : ℕ) → s < n → column s ≤ one) where
      -- what holds of the cell of every state of the column holds of each of its words
      each : (P : ℕ → Type 0) → ((s : ℕ) → s < n → 0 < column s → P (cell s (column s)))
          → (i : ℕ) → i < get_or list (c + 1) 0 - get_or list c 0 → P (get_or list (get_or list c 0 + i) 0)
      each P h i b =
          let k : i < length (cells_of n column) = rw count-is at b in
          rw (word-is i k) (cells-all column P n h i k)

      column_fits : ColumnFits n list c
      column_fits = record {
        named = omega (arith, list_length n T m, (is-list n T m list e).0);
        rises = omega (arith, first-is, end_is);
        cells = record {
          few = rw count-is (cells-few column n);
          stored = omega (arith, first-is, end_is, begins-within n T m c l, (is-list n T m list e).0);
          state_in = each (λ w. state_of w < n) (λ s h k. rw (state-of s (column s) (omega (arith, small s h))) h);
          some_chance = each (λ w. 0 < chance_of w) (λ s h k. rw (chance-of s (column s) (omega (arith, small s h))) k);
          chance_limit = each (λ w. chance_of w ≤ one) (λ s h k. rw (chance-of s (column s) (omega (arith, small s h))) (small s h));
        };
      }

      column-said : (s : ℕ) → s < n
          → total_to (get_or list (c + 1) 0 - get_or list c 0) (λ i. chance_for s (get_or list (get_or list c 0 + i) 0)) ≡ column s
      column-said s h =
          ap (λ (k : ℕ). total_to k (λ i. chance_for s (get_or list (get_or list c 0 + i) 0))) count-is
          ∙ total-cong (length (cells_of n column)) _ _ (λ i b. ap (chance_for s) (word-is i b))
          ∙ said_in column n (λ r k. omega (arith, small r k)) s n (omega arith) h

  module _ (a : ℕ) (few : a < m) (small : (s : ℕ) → s < n → (s' : ℕ) → s' < n → T s a s' ≤ one) where
    -- the column of a and s' is that of T
    column-at : (s s' : ℕ) → s' < n → column_of n T (row_place n a s') s ≡ T s a s'
    column-at s s' l = rw (digits_div a l, digits_mod a l)

    column-small : (s' : ℕ) → s' < n → (s : ℕ) → s < n → column_of n T (row_place n a s') s ≤ one
    column-small s' l s h = rw (column-at s s' l) (small s h s' l)

    pub turned-back : (s : ℕ) → s < n → (s' : ℕ) → s' < n → turned_back n list s a s' ≡ T s a s'
    unfolding turned_back
    turned-back s h s' l = column-said (row_place n a s') (cell_below a m s' n few l) (column-small s' l) s h ∙ column-at s s' l

    pub list-says : Says n cells list a
    list-says = record {
      columns = record {
        column = λ s' l. column_fits (row_place n a s') (cell_below a m s' n few l) (column-small s' l);
        limit = λ s h s' l. rw (turned-back s h s' l) (small s h s' l);
      };
      turned = turned-back;
    }
