-- Cells after each of them was stated. Assumes nothing.
--
-- In order: what is done one after the other; an index that is no star stands for itself; a table of which each cell was stated; rewards.
use Rattle.integers.proofs.Kit.{◌≡◌, ◌∙◌, refl, ap, sym, subst, true, false, Bool, cond, ◌&&◌, ◌||◌, List, ℕ, ◌≤◌, ◌<◌, ◌*◌, suc, zero, arith}
use Rattle.integers.proofs.Kit.{dec_lt, eqb, eq-eqb, ne_eqb, eqb-true, length, ℤ}
use Rattle.integers.proofs.Searches.{and-true}
use Rattle.tables.specs.Storage.{cell_in, reward_in}
use Rattle.drafts.specs.Drafts.{marked, stated, rewarded}
use Rattle.drafts.proofs.Marks.{marking-start, marking-more}
use Rattle.drafts.proofs.Meaning.{meant, stated-cell, rewarded-cell}
use Rattle.rereading.proofs.Rows.{done}

-- ---- what is done one after the other

module _ {C : Type 0} (P : C → Type 0) where
  pub done-keeps : (n : ℕ) (f : ℕ → C → C) → ((i : ℕ) (c : C) → i < n → P c → P (f i c)) → (c : C) → P c → P (done n f c)
  unfolding done
  done-keeps zero f h c p = p
  done-keeps (suc n) f h c p = h n (done n f c) (omega arith) (done-keeps n f (λ i c l. h i c (omega arith)) c p)

  -- what one of them brings about, and none of them undoes
  pub done-brings : (Q : C → Type 0) (n j : ℕ) (f : ℕ → C → C) → j < n → ((i : ℕ) (c : C) → i < n → P c → P (f i c))
      → ((i : ℕ) (c : C) → i < n → P c → Q c → Q (f i c)) → ((c : C) → P c → Q (f j c)) → (c : C) → P c → Q (done n f c)
  unfolding done
  done-brings Q zero j f l h k b c p = absurd (omega arith)
  done-brings Q (suc n) j f l h k b c p =
      by (dec_lt j n) (λ d. done-brings Q n j f d (λ i c l. h i c (omega arith)) (λ i c l. k i c (omega arith)) b c p)
      (done-keeps n f (λ i c l. h i c (omega arith)) c p)
    where
      by : Dec (j < n) → (j < n → Q (done n f c)) → P (done n f c) → Q (f n (done n f c))
      by (yes d) q p = k n (done n f c) (omega arith) p (q d)
      by (no d) q p =
          let e : j ≡ n = omega arith in
          subst (λ (i : ℕ). Q (f i (done n f c))) e (b (done n f c) p)

-- the same in m blocks of n each
module _ {C : Type 0} (m n : ℕ) (one : ℕ → ℕ → C → C) where
  abbrev pub blocks : C → C
  blocks = done m (λ a. done n (one a))

  pub blocks-bring : (P Q : C → Type 0) (a' s' : ℕ) → a' < m → s' < n → ((a s : ℕ) (c : C) → a < m → s < n → P c → P (one a s c))
      → ((a s : ℕ) (c : C) → a < m → s < n → P c → Q c → Q (one a s c)) → ((c : C) → P c → Q (one a' s' c)) → (c : C) → P c → Q (blocks c)
  blocks-bring P Q a' s' la ls h k b =
      done-brings P Q m a' _ la (λ a c l p. done-keeps P n (one a) (λ s c i. h a s c l i) c p)
      (λ a c l p q. (done-keeps (λ c. P c × Q c) n (one a) (λ s c i r. (h a s c l i r.0, k a s c l i r.0 r.1)) c (p, q)).1)
      (λ c p. done-brings P Q n s' (one a') ls (λ s c i. h a' s c la i) (λ s c i. k a' s c la i) b c p)

-- as many cells as before
same-long : {A : Type 0} (test : ℕ → Bool) (v : A) (l : List A) → length (marked test v l) ≡ length l
same-long test v l = (marking-more (marking-start (λ j. test) v l) refl).long

still-long : {A : Type 0} (r : ℕ) (test : ℕ → Bool) (v : A) (l : List A) → r ≤ length l → r ≤ length (marked test v l)
still-long r test v l h = omega (arith, same-long test v l)

pub stated-long : (m n w a s x p r : ℕ) (l : List ℕ) → r ≤ length l → r ≤ length (stated m n w a s x p l)
unfolding stated
stated-long m n w a s x p r l h = still-long r _ p l h

rewarded-long : (m n a s r : ℕ) (v : ℤ) (l : List ℤ) → r ≤ length l → r ≤ length (rewarded m n a s v l)
unfolding rewarded
rewarded-long m n a s r v l h = still-long r _ v l h

-- ---- an index that is no star stands for itself

itself : (n i : ℕ) → i < n → meant n i i ≡ true
itself n i h = ap (λ (t : Bool). t || eqb i i) (ne_eqb i n (λ e. omega arith)) ∙ eq-eqb i i refl

only-itself : (n i j : ℕ) → i < n → meant n i j ≡ true → i ≡ j
only-itself n i j h e = eqb-true i j (sym (ap (λ (t : Bool). t || eqb i j) (ne_eqb i n (λ e. omega arith))) ∙ e)

-- a cell that gets a value where a test holds has it, if it had it before or the test holds
kept_by : {A : Type 0} (t : Bool) (p x v : A) → (t ≡ true → p ≡ v) → x ≡ v → cond t p x ≡ v
kept_by true p x v h e = h refl
kept_by false p x v h e = e

-- ---- a table of which each cell was stated

-- one row of it, and all rows
abbrev pub row_done : ℕ → ℕ → ℕ → ℕ → ℕ → (ℕ → ℕ) → List ℕ → List ℕ
row_done m n w a s cell = done w (λ x. stated m n w a s x (cell x))

abbrev pub table_done : ℕ → ℕ → ℕ → (ℕ → ℕ → ℕ → ℕ) → List ℕ → List ℕ
table_done m n w cell = blocks m n (λ a s. row_done m n w a s (cell a s))

module _ (m n w : ℕ) (cell : ℕ → ℕ → ℕ → ℕ) where
  abbrev Long : List ℕ → Type 0
  Long cells = m * n * w ≤ length cells

  row-long : (a s : ℕ) (cells : List ℕ) → Long cells → Long (row_done m n w a s (cell a s) cells)
  row-long a s cells h = done-keeps Long w _ (λ x c l k. stated-long m n w a s x (cell a s x) (m * n * w) c k) cells h

  module _ (a' s' x' : ℕ) (la : a' < m) (ls : s' < n) (lx : x' < w) where
    abbrev Set : List ℕ → Type 0
    Set cells = cell_in n w cells a' s' x' ≡ cell a' s' x'

    set_here : (cells : List ℕ) → Long cells → Set (stated m n w a' s' x' (cell a' s' x') cells)
    set_here cells h =
        stated-cell m n w a' s' x' (cell a' s' x') cells a' s' x' (omega arith) (omega arith) (omega arith) la ls lx h
        ∙ rw (itself m a' la, itself n s' ls, itself w x' lx)

    set-kept : (a s x : ℕ) (cells : List ℕ) → a < m → s < n → x < w → Long cells → Set cells → Set (stated m n w a s x (cell a s x) cells)
    set-kept a s x cells ka ks kx h e =
        stated-cell m n w a s x (cell a s x) cells a' s' x' (omega arith) (omega arith) (omega arith) la ls lx h
        ∙ kept_by (meant m a a' && (meant n s s' && meant w x x')) (cell a s x) (cell_in n w cells a' s' x') (cell a' s' x')
        (λ t.
        let p = and-true (meant m a a') (meant n s s' && meant w x x') t in
        let q = and-true (meant n s s') (meant w x x') p.1 in
        ap (λ (i : ℕ). cell i s x) (only-itself m a a' ka p.0) ∙ ap (λ (i : ℕ). cell a' i x) (only-itself n s s' ks q.0)
        ∙ ap (cell a' s') (only-itself w x x' kx q.1)) e

    row_kept : (a s : ℕ) (cells : List ℕ) → a < m → s < n → Long cells → Set cells → Set (row_done m n w a s (cell a s) cells)
    row_kept a s cells ka ks h e =
        (done-keeps (λ c. Long c × Set c) w _
        (λ x c l k. (stated-long m n w a s x (cell a s x) (m * n * w) c k.0, set-kept a s x c ka ks l k.0 k.1)) cells (h, e)).1

    pub row-set : (cells : List ℕ) → Long cells → Set (row_done m n w a' s' (cell a' s') cells)
    row-set cells h =
        done-brings Long Set w x' _ lx (λ x c l k. stated-long m n w a' s' x (cell a' s' x) (m * n * w) c k)
        (λ x c l k e. set-kept a' s' x c la ls l k e) set_here cells h

    -- each cell is what was stated for it
    pub table-set : (cells : List ℕ) → Long cells → Set (table_done m n w cell cells)
    table-set cells h =
        blocks-bring m n (λ a s. row_done m n w a s (cell a s)) Long Set a' s' la ls (λ a s c _ _. row-long a s c) (λ a s c. row_kept a s c) row-set cells h

-- ---- rewards

abbrev pub rewards_done : ℕ → ℕ → (ℕ → ℕ → ℤ) → List ℤ → List ℤ
rewards_done m n reward = blocks m n (λ a s. rewarded m n a s (reward s a))

module _ (m n : ℕ) (reward : ℕ → ℕ → ℤ) (a' s' : ℕ) (la : a' < m) (ls : s' < n) where
  abbrev Is-reward : List ℤ → Type 0
  Is-reward cells = reward_in n cells s' a' ≡ reward s' a'

  reward-here : (cells : List ℤ) → m * n ≤ length cells → Is-reward (rewarded m n a' s' (reward s' a') cells)
  reward-here cells h =
      rewarded-cell m n a' s' (reward s' a') cells a' s' (omega arith) (omega arith) la ls h ∙ rw (itself m a' la, itself n s' ls)

  reward-kept : (a s : ℕ) (cells : List ℤ) → a < m → s < n → m * n ≤ length cells → Is-reward cells → Is-reward (rewarded m n a s (reward s a) cells)
  reward-kept a s cells ka ks h e =
      rewarded-cell m n a s (reward s a) cells a' s' (omega arith) (omega arith) la ls h
      ∙ kept_by (meant m a a' && meant n s s') (reward s a) (reward_in n cells s' a') (reward s' a')
      (λ t.
      let p = and-true (meant m a a') (meant n s s') t in
      ap (reward s) (only-itself m a a' ka p.0) ∙ ap (λ (i : ℕ). reward i a') (only-itself n s s' ks p.1)) e

  pub rewards-set : (cells : List ℤ) → m * n ≤ length cells → Is-reward (rewards_done m n reward cells)
  rewards-set cells h =
      blocks-bring m n (λ a s. rewarded m n a s (reward s a)) (λ c. m * n ≤ length c) Is-reward a' s' la ls
      (λ a s c _ _. rewarded-long m n a s (m * n) (reward s a) c) (λ a s c. reward-kept a s c) reward-here cells h
