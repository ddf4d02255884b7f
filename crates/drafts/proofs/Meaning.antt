-- What a statement says of each cell: the one number stated where the cell is meant, and what was there elsewhere. Assumes nothing.
--
-- In order: a cell of what is marked; one among those that an index stands for; where cells lie: each in its own place; what a statement says of a cell.
use Rattle.integers.proofs.Kit.{◌≡◌, ◌∙◌, refl, ap, sym, true, false, Bool, cond, ◌&&◌, ◌||◌, List, [], ◌∷◌, ℕ, ◌≤◌, ◌<◌, ◌+◌, ◌*◌, suc, zero, arith}
use Rattle.integers.proofs.Kit.{dec_lt, ne_eqb, eq-eqb, eqb-true, eqb, length, get_or, ℤ, pos, or-false, and_comm, and_assoc}
use borrow.Author.Tests.{eqb-false}
use Rattle.integers.specs.Search.{some}
use Rattle.integers.proofs.Lists.{cell_below, row_below}
use Rattle.integers.proofs.Searches.{some-none}
use Rattle.tables.specs.Storage.{row_place, cell_place, cell_in, reward_in}
use Rattle.drafts.specs.Drafts.{outcome_place, marked_from, marked, among, stated, rewarded, outcomed}

-- i stands for j: it is n, a star, or j itself
abbrev pub meant : ℕ → ℕ → ℕ → Bool
meant n i j = eqb i n || eqb i j

-- ---- a cell of what is marked

module _ {A : Type 0} where
  marked_from-at : (at : ℕ) (test : ℕ → Bool) (v z : A) (l : List A) (i : ℕ) → i < length l
      → get_or (marked_from at test v l) i z ≡ cond (test (at + i)) v (get_or l i z)
  unfolding marked_from
  marked_from-at at test v z [] i h = absurd (omega arith)
  marked_from-at at test v z (x ∷ l) zero h =
      let e : at ≡ at + 0 = omega arith in
      ap (λ (n : ℕ). cond (test n) v x) e
  marked_from-at at test v z (x ∷ l) (suc i) h =
      let e : suc at + i ≡ at + suc i = omega arith in
      marked_from-at (suc at) test v z l i (omega arith) ∙ ap (λ (n : ℕ). cond (test n) v (get_or l i z)) e

  marked-at : (test : ℕ → Bool) (v z : A) (l : List A) (i : ℕ) → i < length l → get_or (marked test v l) i z ≡ cond (test i) v (get_or l i z)
  marked-at test v z l i h =
      let e : 0 + i ≡ i = omega arith in
      marked_from-at 0 test v z l i h ∙ ap (λ (n : ℕ). cond (test n) v (get_or l i z)) e

eqb-sym : (a b : ℕ) → eqb a b ≡ eqb b a
eqb-sym a b = by (eqb a b) refl
  where
    by : (t : Bool) → eqb a b ≡ t → t ≡ eqb b a
    by true e = sym (eq-eqb b a (sym (eqb-true a b e)))
    by false e = sym (ne_eqb b a (λ q. eqb-false a b e (sym q)))

-- ---- one among those that an index stands for

-- a test that only j passes, where t holds
some_one : (n j : ℕ) (t : Bool) (p : ℕ → Bool) → j < n → ((k : ℕ) → k < n → p k ≡ (eqb j k && t)) → some n p ≡ t
unfolding some
some_one zero j t p l h = absurd (omega arith)
some_one (suc n) j t p l h = by (dec_lt j n) (λ d. some_one n j t p d (λ k l. h k (omega arith)))
  where
    by : Dec (j < n) → (j < n → some n p ≡ t) → (some n p || p n) ≡ t
    by (yes d) e = rw (e d, h n (omega arith), ne_eqb j n (λ e. omega arith)) (or-false t)
    by (no d) e =
        let q : j ≡ n = omega arith in
        rw (some-none n p (λ k l. h k (omega arith) ∙ ap (λ (b : Bool). b && t) (ne_eqb j k (λ e. omega arith))), h n (omega arith), eq-eqb j n q)

among-by : (b : Bool) (n i j : ℕ) (t : Bool) (test : ℕ → Bool) → (b ≡ false → i < n) → j < n → ((k : ℕ) → k < n → test k ≡ (eqb j k && t))
    → some (cond b n 1) (λ k. test (cond b 0 i + k)) ≡ ((b || eqb i j) && t)
unfolding some
among-by true n i j t test l k h =
    some_one n j t (λ k. test (0 + k)) k (λ k l. let e : 0 + k ≡ k = omega arith in ap test e ∙ h k l)
among-by false n i j t test l k h =
    let e : i + 0 ≡ i = omega arith in
    ap test e ∙ h i (l refl) ∙ ap (λ (b : Bool). b && t) (eqb-sym j i)

-- a test that only j passes, where t holds, is passed among those that i stands for where j is one of them
among_one : (n i j : ℕ) (t : Bool) (test : ℕ → Bool) → i ≤ n → j < n → ((k : ℕ) → k < n → test k ≡ (eqb j k && t)) → among n i test ≡ (meant n i j && t)
among_one n i j t test l k h = among-by (eqb i n) n i j t test (λ e. omega (arith, eqb-false i n e)) k h

-- ---- where cells lie: each in its own place

pair_place : (n q r q' r' : ℕ) → r < n → r' < n → eqb (q * n + r) (q' * n + r') ≡ (eqb q q' && eqb r r')
pair_place n q r q' r' h k = rows (eqb q q') refl
  where
    places : (t : Bool) → eqb r r' ≡ t → q ≡ q' → eqb (q * n + r) (q' * n + r') ≡ t
    places true d e =
        let z : r ≡ r' = eqb-true r r' d in
        eq-eqb (q * n + r) (q' * n + r') (rw (e, z) refl)
    places false d e = ne_eqb (q * n + r) (q' * n + r') (λ z. eqb-false r r' d (let y : q * n ≡ q' * n = ap (λ (x : ℕ). x * n) e in omega arith))

    rows : (t : Bool) → eqb q q' ≡ t → eqb (q * n + r) (q' * n + r') ≡ (t && eqb r r')
    rows true e = places (eqb r r') refl (eqb-true q q' e)
    rows false e = ne_eqb (q * n + r) (q' * n + r') (λ z. apart (dec_lt q q') z)
      where
        apart : Dec (q < q') → q * n + r ≡ q' * n + r' → ⊥
        apart (yes l) z = omega (arith, row_below q q' n l)
        apart (no l) z = let m : q' < q = omega (arith, eqb-false q q' e) in omega (arith, row_below q' q n m)

-- the last of three comes first
and-front : (a b c : Bool) → (a && (b && c)) ≡ (c && (a && b))
and-front true b c = and_comm b c
and-front false b c = and_comm false c

-- ---- what a statement says of a cell

-- place x' of row q of width w, among the places that x stands for of row q'
module _ (w x x' : ℕ) (lx : x ≤ w) (kx : x' < w) (q q' : ℕ) where
  row-meant : among w x (λ y. eqb (row_place w q x') (row_place w q' y)) ≡ (meant w x x' && eqb q q')
  row-meant =
      among_one w x x' (eqb q q') (λ y. eqb (row_place w q x') (row_place w q' y)) lx kx
      (λ y l. pair_place w q x' q' y kx l ∙ and_comm (eqb q q') (eqb x' y))

  -- the same where each of them has places of its own, of which t is meant
  rows-meant : (t : Bool) (test : ℕ → Bool) → ((y : ℕ) → test y ≡ (t && eqb (row_place w q x') (row_place w q' y)))
      → among w x test ≡ ((meant w x x' && t) && eqb q q')
  rows-meant t test h =
      among_one w x x' (t && eqb q q') test lx kx
      (λ y l. h y ∙ ap (λ (b : Bool). t && b) (pair_place w q x' q' y kx l) ∙ and-front t (eqb q q') (eqb x' y))
      ∙ sym (and_assoc (meant w x x') t (eqb q q'))

pub stated-cell : (m n w a s x p : ℕ) (cells : List ℕ) (a' s' x' : ℕ) → a ≤ m → s ≤ n → x ≤ w → a' < m → s' < n → x' < w → m * n * w ≤ length cells
    → cell_in n w (stated m n w a s x p cells) a' s' x' ≡ cond (meant m a a' && (meant n s s' && meant w x x')) p (cell_in n w cells a' s' x')
unfolding stated
stated-cell m n w a s x p cells a' s' x' la ls lx ka ks kx room =
    marked-at (λ i. among m a (λ b. among n s (λ r. among w x (λ y. eqb i (cell_place n w b r y))))) p 0 cells (cell_place n w a' s' x')
    (omega (arith, cell_below (row_place n a' s') (m * n) x' w (cell_below a' m s' n ka ks) kx))
    ∙ ap (λ (t : Bool). cond t p (cell_in n w cells a' s' x'))
    (among_one m a a' (meant n s s' && meant w x x') (λ b. among n s (λ r. among w x (λ y. eqb (cell_place n w a' s' x') (cell_place n w b r y)))) la ka
    (λ b l. rows-meant n s s' ls ks a' b (meant w x x') (λ r. among w x (λ y. eqb (cell_place n w a' s' x') (cell_place n w b r y)))
    (λ r. row-meant w x x' lx kx (row_place n a' s') (row_place n b r))
    ∙ and_comm (meant n s s' && meant w x x') (eqb a' b)))

pub rewarded-cell : (m n a s : ℕ) (r : ℤ) (cells : List ℤ) (a' s' : ℕ) → a ≤ m → s ≤ n → a' < m → s' < n → m * n ≤ length cells
    → reward_in n (rewarded m n a s r cells) s' a' ≡ cond (meant m a a' && meant n s s') r (reward_in n cells s' a')
unfolding rewarded
rewarded-cell m n a s r cells a' s' la ls ka ks room =
    marked-at (λ i. among m a (λ b. among n s (λ x. eqb i (row_place n b x)))) r (pos 0) cells (row_place n a' s') (omega (arith, cell_below a' m s' n ka ks))
    ∙ ap (λ (t : Bool). cond t r (reward_in n cells s' a'))
    (among_one m a a' (meant n s s') (λ b. among n s (λ x. eqb (row_place n a' s') (row_place n b x))) la ka
    (λ b l. row-meant n s s' ls ks a' b ∙ and_comm (meant n s s') (eqb a' b)))

-- a reward by action a', state s₁, state reached s₂ and observation o'
module _ (m n k a s s' o a' s₁ s₂ o' : ℕ) (la : a ≤ m) (ls : s ≤ n) (ls' : s' ≤ n) (lo : o ≤ k) (ka : a' < m) (ks : s₁ < n) (ks' : s₂ < n) (ko : o' < k) where
  outcome-below : outcome_place n k a' s₁ s₂ o' < m * n * n * k
  outcome-below =
      cell_below (cell_place n n a' s₁ s₂) (m * n * n) o' k (cell_below (row_place n a' s₁) (m * n) s₂ n (cell_below a' m s₁ n ka ks) ks') ko

  pub outcomed-cell : (r : ℤ) (cells : List ℤ) → m * n * n * k ≤ length cells
      → get_or (outcomed m n k a s s' o r cells) (outcome_place n k a' s₁ s₂ o') (pos 0)
      ≡ cond (meant m a a' && (meant n s s₁ && (meant n s' s₂ && meant k o o'))) r (get_or cells (outcome_place n k a' s₁ s₂ o') (pos 0))
  unfolding outcomed
  outcomed-cell r cells room =
      marked-at (λ i. among m a (λ b. among n s (λ x. among n s' (λ y. among k o (λ z. eqb i (outcome_place n k b x y z)))))) r (pos 0) cells
      (outcome_place n k a' s₁ s₂ o') (omega (arith, outcome-below))
      ∙ ap (λ (t : Bool). cond t r (get_or cells (outcome_place n k a' s₁ s₂ o') (pos 0)))
      (among_one m a a' (meant n s s₁ && (meant n s' s₂ && meant k o o'))
      (λ b. among n s (λ x. among n s' (λ y. among k o (λ z. eqb (outcome_place n k a' s₁ s₂ o') (outcome_place n k b x y z))))) la ka
      (λ b l. rows-meant n s s₁ ls ks a' b (meant n s' s₂ && meant k o o')
      (λ x. among n s' (λ y. among k o (λ z. eqb (outcome_place n k a' s₁ s₂ o') (outcome_place n k b x y z))))
      (λ x. rows-meant n s' s₂ ls' ks' (row_place n a' s₁) (row_place n b x) (meant k o o')
      (λ y. among k o (λ z. eqb (outcome_place n k a' s₁ s₂ o') (outcome_place n k b x y z)))
      (λ y. row-meant k o o' lo ko (cell_place n n a' s₁ s₂) (cell_place n n b x y)))
      ∙ and_comm (meant n s s₁ && (meant n s' s₂ && meant k o o')) (eqb a' b)))
