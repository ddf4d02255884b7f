-- Cells that are marked one after the other, and what an index stands for. Assumes nothing.
--
-- In order: cells marked, and marked one after the other; what an index stands for; what is stated is what is marked, for T and O, for rewards and for
-- rewards in full.
use Rattle.integers.proofs.Kit.{◌≡◌, ◌∙◌, refl, ap, sym, true, false, Bool, cond, ◌||◌, List, [], ◌∷◌, ℕ, ◌≤◌, ◌<◌, ◌+◌, suc, zero, arith, add-one}
use Rattle.integers.proofs.Kit.{add-zero, zero-add, ne_eqb, eq-eqb, eqb, length, get_or, set, ℤ}
use borrow.Author.Tests.{eqb-false}
use Rattle.integers.specs.Search.{some}
use Rattle.integers.proofs.Searches.{some-cong, cond-by}
use Rattle.tables.specs.Storage.{row_place, cell_place}
use Rattle.drafts.specs.Drafts.{outcome_place, marked_from, marked, lowest, spread, stated, rewarded, outcomed}

module _ {A : Type 0} where
  same_length : (at : ℕ) (test : ℕ → Bool) (v : A) (l : List A) → length (marked_from at test v l) ≡ length l
  unfolding marked_from
  same_length at test v [] = refl
  same_length at test v (x ∷ l) = ap suc (same_length (suc at) test v l)

  unmarked : (at : ℕ) (test : ℕ → Bool) (v : A) (l : List A) → ((i : ℕ) → at ≤ i → test i ≡ false) → l ≡ marked_from at test v l
  unfolding marked_from
  unmarked at test v [] h = refl
  unmarked at test v (x ∷ l) h =
      ap (λ (r : List A). x ∷ r) (unmarked (suc at) test v l (λ i k. h i (omega arith)))
      ∙ ap (λ (t : Bool). cond t v x ∷ marked_from (suc at) test v l) (sym (h at (omega arith)))

  one_cell : (f g : Bool) (v x : A) → cond g v (cond f v x) ≡ cond (f || g) v x
  one_cell true true v x = refl
  one_cell true false v x = refl
  one_cell false g v x = refl

  both-marked : (at : ℕ) (f g : ℕ → Bool) (v : A) (l : List A) → marked_from at g v (marked_from at f v l) ≡ marked_from at (λ i. f i || g i) v l
  unfolding marked_from
  both-marked at f g v [] = refl
  both-marked at f g v (x ∷ l) =
      ap (λ (r : List A). cond (g at) v (cond (f at) v x) ∷ r) (both-marked (suc at) f g v l)
      ∙ ap (λ (y : A). y ∷ marked_from (suc at) (λ i. f i || g i) v l) (one_cell (f at) (g at) v x)

  writing : (at q : ℕ) (v : A) (l : List A) → set l q v ≡ marked_from at (λ i. eqb i (at + q)) v l
  unfolding marked_from
  writing at q v [] = refl
  writing at zero v (x ∷ l) =
      ap (λ (r : List A). v ∷ r) (unmarked (suc at) (λ i. eqb i (at + 0)) v l (λ i h. ne_eqb i (at + 0) (λ e. omega arith)))
      ∙ ap (λ (t : Bool). cond t v x ∷ marked_from (suc at) (λ i. eqb i (at + 0)) v l) (sym (eq-eqb at (at + 0) (omega arith)))
  writing at (suc q) v (x ∷ l) =
      let e : suc at + q ≡ at + suc q = omega arith in
      ap (λ (r : List A). x ∷ r) (writing (suc at) q v l)
      ∙ ap (λ (n : ℕ). x ∷ marked_from (suc at) (λ i. eqb i n) v l) e
      ∙ ap (λ (t : Bool). cond t v x ∷ marked_from (suc at) (λ i. eqb i (at + suc q)) v l) (sym (ne_eqb at (at + suc q) (λ e. omega arith)))

  -- a cell that is written is marked
  pub write-marks : (q : ℕ) (v : A) (l : List A) → set l q v ≡ marked (λ i. eqb i q) v l
  write-marks q v l =
      let e : 0 + q ≡ q = omega arith in
      writing 0 q v l ∙ ap (λ (n : ℕ). marked (λ i. eqb i n) v l) e

  from-cong : (at : ℕ) (f g : ℕ → Bool) (v : A) (l : List A) → ((i : ℕ) → f i ≡ g i) → marked_from at f v l ≡ marked_from at g v l
  unfolding marked_from
  from-cong at f g v [] h = refl
  from-cong at f g v (x ∷ l) h =
      ap (λ (t : Bool). cond t v x ∷ marked_from (suc at) f v l) (h at) ∙ ap (λ (r : List A). cond (g at) v x ∷ r) (from-cong (suc at) f g v l h)

  -- tests that agree mark alike
  marked-cong : (f g : ℕ → Bool) (v : A) (l : List A) → ((i : ℕ) → f i ≡ g i) → marked f v l ≡ marked g v l
  marked-cong f g v l h = from-cong 0 f g v l h

  marked-each : (P : A → Type 0) (z : A) (at : ℕ) (test : ℕ → Bool) (v : A) (l : List A) → P v → ((i : ℕ) → P (get_or l i z))
      → (i : ℕ) → P (get_or (marked_from at test v l) i z)
  unfolding marked_from
  marked-each P z at test v [] p h i = h i
  marked-each P z at test v (x ∷ l) p h zero = cond-by P (test at) p (h 0)
  marked-each P z at test v (x ∷ l) p h (suc i) = marked-each P z (suc at) test v l p (λ j. h (suc j)) i

  -- what holds of every cell and of the value holds of every cell that it leaves
  pub marked_all : (P : A → Type 0) (z : A) (test : ℕ → Bool) (v : A) (l : List A) → P v → ((i : ℕ) → P (get_or l i z))
      → (i : ℕ) → P (get_or (marked test v l) i z)
  marked_all P z test v l p h i = marked-each P z 0 test v l p h i

  -- the tests p 0, .., p (k - 1) are marked, one after the other
  pub record Marking (p : ℕ → ℕ → Bool) (v : A) (l : List A) (k : ℕ) (l' : List A) : Type 0 where
    pub long : length l' ≡ length l
    pub is : l' ≡ marked (λ i. some k (λ j. p j i)) v l

  pub marking-start : (p : ℕ → ℕ → Bool) (v : A) (l : List A) → Marking p v l 0 l
  unfolding some
  marking-start p v l = record { long = refl; is = unmarked 0 (λ i. false) v l (λ i h. refl) }

  pub marking-more : {p : ℕ → ℕ → Bool} {v : A} {l l' l'' : List A} {k : ℕ} → Marking p v l k l' → l'' ≡ marked (p k) v l' → Marking p v l (k + 1) l''
  unfolding some
  marking-more {p} {v} {l} {l'} {k = k} m e = record {
    long = ap length e ∙ same_length 0 (p k) v l' ∙ m.long;
    is = e ∙ ap (marked (p k) v) m.is ∙ both-marked 0 (λ i. some k (λ j. p j i)) (p k) v l
        ∙ ap (λ (n : ℕ). marked (λ i. some n (λ j. p j i)) v l) (sym (add-one k));
  }

  pub marking-end : {p : ℕ → ℕ → Bool} {v : A} {l l' : List A} {k : ℕ} (n : ℕ) → Marking p v l k l' → k ≡ n → l' ≡ marked (λ i. some n (λ j. p j i)) v l
  marking-end {p} {v} {l} n m e = m.is ∙ ap (λ (n : ℕ). marked (λ i. some n (λ j. p j i)) v l) e

  -- one test alone
  once : (p : ℕ → ℕ → Bool) (v : A) (l : List A) {l' : List A} → l' ≡ marked (p 0) v l → l' ≡ marked (λ i. some 1 (λ j. p j i)) v l
  once p v l e = marking-end 1 (marking-more (marking-start p v l) e) refl

star-within : (t : Bool) (n i : ℕ) → (t ≡ false → i < n) → cond t 0 i + cond t n 1 ≤ n
star-within true n i h = omega arith
star-within false n i h = omega (arith, h refl)

not-star : (n i : ℕ) → i ≤ n → eqb i n ≡ false → i < n
not-star n i h e = omega (arith, eqb-false i n e)

-- those that an index stands for lie below the count
pub stands-within : (n i : ℕ) {l k : ℕ} → l ≡ lowest n i → k ≡ spread n i → i ≤ n → l + k ≤ n
stands-within n i e d h = rw (e, d) (star-within (eqb i n) n i (not-star n i h))

-- what is marked for them is what is stated
pub stated-by : (m n w a s x p : ℕ) (l : List ℕ) {b bs r rs y ys : ℕ}
    → b ≡ lowest m a → bs ≡ spread m a → r ≡ lowest n s → rs ≡ spread n s → y ≡ lowest w x → ys ≡ spread w x
    → marked (λ i. some bs (λ b'. some rs (λ r'. some ys (λ j. eqb i (cell_place n w (b + b') (r + r') (y + j)))))) p l ≡ stated m n w a s x p l
unfolding stated
stated-by m n w a s x p l b bs r rs y ys = rw (b, bs, r, rs, y, ys) refl

stands-alone : (n i : ℕ) → i < n → (i ≡ lowest n i) × (1 ≡ spread n i)
stands-alone n i h = let e = ne_eqb i n (λ e. omega arith) in (sym (ap (λ (t : Bool). cond t 0 i) e), sym (ap (λ (t : Bool). cond t n 1) e))

-- and without a star one cell is
pub stated-one : (m n w a s x p : ℕ) (l : List ℕ) → a < m → s < n → x < w → set l (cell_place n w a s x) p ≡ stated m n w a s x p l
stated-one m n w a s x p l la ls lx =
    let block = stands-alone m a la in
    let row = stands-alone n s ls in
    let place = stands-alone w x lx in
    let same : cell_place n w a s x ≡ cell_place n w (a + 0) (s + 0) (x + 0) = rw (add-zero a, add-zero s, add-zero x) refl in
    once (λ b i. some 1 (λ r. some 1 (λ j. eqb i (cell_place n w (a + b) (s + r) (x + j))))) p l
    (once (λ r i. some 1 (λ j. eqb i (cell_place n w (a + 0) (s + r) (x + j)))) p l
    (once (λ j i. eqb i (cell_place n w (a + 0) (s + 0) (x + j))) p l
    (ap (λ (q : ℕ). set l q p) same ∙ write-marks (cell_place n w (a + 0) (s + 0) (x + 0)) p l)))
    ∙ stated-by m n w a s x p l block.0 block.1 row.0 row.1 place.0 place.1

pub rewarded-by : (m n a s : ℕ) (v : ℤ) (l : List ℤ) {r rs y ys : ℕ}
    → r ≡ lowest m a → rs ≡ spread m a → y ≡ lowest n s → ys ≡ spread n s
    → marked (λ i. some rs (λ r'. some ys (λ j. eqb i (row_place n (0 + (r + r')) (y + j))))) v l ≡ rewarded m n a s v l
unfolding rewarded
rewarded-by m n a s v l {r} {rs} {y} {ys} er ers ey eys =
    marked-cong (λ i. some rs (λ r'. some ys (λ j. eqb i (row_place n (0 + (r + r')) (y + j)))))
    (λ i. some rs (λ r'. some ys (λ j. eqb i (row_place n (r + r') (y + j))))) v l
    (λ i. some-cong rs _ _ (λ r' h. ap (λ (q : ℕ). some ys (λ j. eqb i (row_place n q (y + j)))) (zero-add (r + r'))))
    ∙ rw (er, ers, ey, eys) refl

pub outcomed-by : (m n k a s s' o : ℕ) (v : ℤ) (l : List ℤ) {g gs b bs r rs y ys : ℕ}
    → g ≡ lowest m a → gs ≡ spread m a → b ≡ lowest n s → bs ≡ spread n s → r ≡ lowest n s' → rs ≡ spread n s' → y ≡ lowest k o → ys ≡ spread k o
    → marked (λ i. some gs (λ g'. some bs (λ b'. some rs (λ r'. some ys (λ j. eqb i (outcome_place n k (g + g') (b + b') (r + r') (y + j))))))) v l
    ≡ outcomed m n k a s s' o v l
unfolding outcomed
outcomed-by m n k a s s' o v l g gs b bs r rs y ys = rw (g, gs, b, bs, r, rs, y, ys) refl
