-- Laws of arrays of which the first cells count. Assumes nothing.
--
-- In order: cells laid over others; rows laid over others; rows in an array of one's own; bounds on what an array is filled with.
use Rattle.integers.proofs.Kit.{◌≡◌, ◌∙◌, refl, ap, sym, List, [], ◌∷◌, ℕ, ◌≤◌, ◌<◌, ◌+◌, ◌*◌, suc, ◌-◌, zero, ◌/◌, ◌%◌, arith, add-zero, zero-add}
use Rattle.integers.proofs.Kit.{add-one, dec_lt, length, get_or, drop, replicate, set, length-replicate, take, paste, drop-drop, ℤ, pos, nat_abs, subst}
use mathlib.Core.List.{◌++◌, append_assoc, append-nil}
use native.Mathlib.Nat as NatL
use native.Mathlib.Nat.{add-suc}
use native.Mathlib.Decide.{ℕ_discrete}
use lib.ListN.{length-append, length-set, length-drop, get_or-append, replicate-append-replicate, take-append-drop}
use lib.Seq.{paste-zero, paste-suc, ext_get_or, take_at, drop-append-add, drop-cons, set_at, get_or-append_seam, get_or-append-add, get_or-take, get_or-drop}
use lib.Seq.{get_or-set_same, get_or-set_other, length-take-le}
use lib.Arith.{digits_div, digits_mod}
use Rattle.integers.specs.Whole.{Below, Within}
use Rattle.integers.specs.Cells.{listed, padded, laid, laid_rows, grid}

-- an index into rows of width w
pub cell_below : (r rows x w : ℕ) → r < rows → x < w → r * w + x < rows * w
cell_below r rows x w h l = omega (arith, NatL.mul-le-mul_right w (let k : suc r ≤ rows = omega arith in k))

pub row_below : (r rows w : ℕ) → r < rows → r * w + w ≤ rows * w
row_below r rows w h = omega (arith, NatL.mul-le-mul_right w (let k : suc r ≤ rows = omega arith in k))

module _ {A : Type 0} where
  pub length-listed : (n : ℕ) (f : ℕ → A) → length (listed n f) ≡ n
  unfolding listed
  length-listed zero f = refl
  length-listed (suc n) f = length-append (listed n f) (f n ∷ []) ∙ omega (arith, length-listed n f)

  pub get_or-listed : (n : ℕ) (f : ℕ → A) (i : ℕ) (d : A) → i < n → get_or (listed n f) i d ≡ f i
  unfolding listed
  get_or-listed zero f i d l = absurd (omega arith)
  get_or-listed (suc n) f i d l = by (dec_lt i n) (λ h. get_or-listed n f i d h)
    where
      by : Dec (i < n) → (i < n → get_or (listed n f) i d ≡ f i) → get_or (listed n f ++ (f n ∷ [])) i d ≡ f i
      by (yes h) r = get_or-append (listed n f) (f n ∷ []) d i (rw (length-listed n f) h) ∙ r h
      by (no h) r =
          let e : i ≡ length (listed n f) = omega (arith, length-listed n f) in
          let k : n ≡ i = omega arith in
          rw e (get_or-append_seam (listed n f) (f n) [] d) ∙ ap f k

  -- as a loop fills it
  pub padded-none : (z : A) (size : ℕ) (f : ℕ → A) → padded z size 0 f ≡ replicate size z
  unfolding padded listed
  padded-none z size f = let e : size - 0 ≡ size = omega arith in ap (λ (k : ℕ). replicate k z) e

  pub padded-more : (z : A) (size n : ℕ) (f : ℕ → A) → n < size → set (padded z size n f) n (f n) ≡ padded z size (n + 1) f
  unfolding padded listed
  padded-more z size n f h =
      let e : size - n ≡ suc (size - (n + 1)) = omega arith in
      ap (λ (k : ℕ). set (listed n f ++ replicate k z) n (f n)) e
      ∙ set_at (listed n f) z (replicate (size - (n + 1)) z) (f n) n (length-listed n f)
      ∙ sym (append_assoc (listed n f) (f n ∷ []) (replicate (size - (n + 1)) z))
      ∙ ap (λ (k : ℕ). listed k f ++ replicate (size - (n + 1)) z) (sym (add-one n))

  -- the same from equations
  pub padded-turn : (z : A) (size : ℕ) (f : ℕ → A) (i : ℕ) {xs : List A} {x : A} → xs ≡ padded z size i f → x ≡ f i → i < size
      → set xs i x ≡ padded z size (i + 1) f
  padded-turn z size f i so_far value l = rw (so_far, value) (padded-more z size i f l)

  pub padded-at : (z : A) (size n : ℕ) (f : ℕ → A) (i : ℕ) (d : A) → i < n → get_or (padded z size n f) i d ≡ f i
  unfolding padded
  padded-at z size n f i d h =
      get_or-append (listed n f) (replicate (size - n) z) d i (rw (length-listed n f) h) ∙ get_or-listed n f i d h

  pub padded-length : (z : A) (size n : ℕ) (f : ℕ → A) → n ≤ size → length (padded z size n f) ≡ size
  unfolding padded
  padded-length z size n f h =
      length-append (listed n f) (replicate (size - n) z) ∙ omega (arith, length-listed n f, length-replicate (size - n) z)

  listed-cong : (n : ℕ) (f g : ℕ → A) → ((i : ℕ) → i < n → f i ≡ g i) → listed n f ≡ listed n g
  unfolding listed
  listed-cong zero f g h = refl
  listed-cong (suc n) f g h = rw (listed-cong n f g (λ i l. h i (omega arith)), h n (omega arith))

  -- what is filled in is read below the count only
  pub padded-cong : (z : A) (size n : ℕ) (f g : ℕ → A) → ((i : ℕ) → i < n → f i ≡ g i) → padded z size n f ≡ padded z size n g
  unfolding padded
  padded-cong z size n f g h = rw (listed-cong n f g h)

  -- as a loop pastes a row: x of its cells so far
  pub record Pasting (at x : ℕ) (row xs ys : List A) : Type 0 where
    pub same : ys ≡ paste xs at row x
    pub long : length ys ≡ length xs

  pub pasting-start : (at : ℕ) (row xs : List A) → Pasting at 0 row xs xs
  pasting-start at row xs = record { same = paste-zero xs at row; long = refl }

  pub pasting-more : (at x : ℕ) (row xs ys : List A) (d : A) {v : A} → at + x < length xs → x < length row → v ≡ get_or row x d → Pasting at x row xs ys
      → Pasting at (x + 1) row xs (set ys (at + x) v)
  pasting-more at x row xs ys d l h e p = record {
    same = rw (p.same, e, add-one) (paste-suc xs at row x d l h);
    long = length-set ys _ _ ∙ p.long;
  }

  pub pasting-end : {at x : ℕ} {row xs ys : List A} (w : ℕ) → Pasting at x row xs ys → x ≡ w → ys ≡ paste xs at row w
  pasting-end w p e = rw e at p.same

  -- a part of the row, pasted at its place
  pub pasting-part : (at x : ℕ) (row xs ys part : List A) (d : A) (w : ℕ) → w ≤ length part → x + w ≤ length row → at + (x + w) ≤ length xs
      → ((i : ℕ) → i < w → get_or part i d ≡ get_or row (x + i) d) → Pasting at x row xs ys → Pasting at (x + w) row xs (paste ys (at + x) part w)
  pasting-part at x row xs ys part d zero few in_row in_List same p =
      subst (λ (k : ℕ). Pasting at k row xs (paste ys (at + x) part 0)) (sym (add-zero x))
      (subst (λ (zs : List A). Pasting at x row xs zs) (paste-zero ys (at + x) part) p)
  pasting-part at x row xs ys part d (suc w) few in_row in_List same p =
      let q = pasting-part at x row xs ys part d w (omega arith) (omega arith) (omega arith) (λ i l. same i (omega arith)) p in
      let place : at + (x + w) ≡ at + x + w = omega arith in
      let next : x + w + 1 ≡ x + suc w = omega arith in
      subst (λ (k : ℕ). Pasting at k row xs (paste ys (at + x) part (suc w))) next
      (subst (λ (zs : List A). Pasting at (x + w + 1) row xs zs)
      (ap (λ (k : ℕ). set (paste ys (at + x) part w) k (get_or part w d)) place ∙ paste-suc ys (at + x) part w d (omega (arith, p.long)) (omega arith))
      (pasting-more at (x + w) row xs (paste ys (at + x) part w) d (omega arith) (omega arith) (same w (omega arith)) q))

  listed-add : (n m : ℕ) (f : ℕ → A) → listed (n + m) f ≡ listed n f ++ listed m (λ i. f (n + i))
  unfolding listed
  listed-add n zero f = ap (λ (k : ℕ). listed k f) (add-zero n) ∙ sym (append-nil (listed n f))
  listed-add n (suc m) f =
      ap (λ (k : ℕ). listed k f) (add-suc n m)
      ∙ ap (λ (l : List A). l ++ (f (n + m) ∷ [])) (listed-add n m f)
      ∙ append_assoc (listed n f) (listed m (λ i. f (n + i))) (f (n + m) ∷ [])

  take-listed : (w : ℕ) (row : List A) (f : ℕ → A) (d : A) → w ≤ length row → ((x : ℕ) → x < w → get_or row x d ≡ f x) → take w row ≡ listed w f
  take-listed w row f d l e =
      ext_get_or d (take w row) (listed w f) (length-take-le w row l ∙ sym (length-listed w f))
      (λ x b. let h : x < w = omega (arith, length-take-le w row l) in get_or-take w row x d h ∙ e x h ∙ sym (get_or-listed w f x d h))

  -- ---- cells laid over others
  pub laid_none : (f : ℕ → A) (xs : List A) → laid 0 f xs ≡ xs
  unfolding laid listed
  laid_none f xs = refl

  pub laid_more : (n : ℕ) (f : ℕ → A) (xs : List A) (d : A) → n < length xs → set (laid n f xs) n (f n) ≡ laid (n + 1) f xs
  unfolding laid listed
  laid_more n f xs d h =
      ap (λ (r : List A). set (listed n f ++ r) n (f n)) (drop-cons xs n d h)
      ∙ set_at (listed n f) (get_or xs n d) (drop (suc n) xs) (f n) n (length-listed n f)
      ∙ sym (append_assoc (listed n f) (f n ∷ []) (drop (suc n) xs))
      ∙ ap (λ (k : ℕ). listed k f ++ drop k xs) (sym (add-one n))

  -- the same from equations
  pub laid-turn : (f : ℕ → A) (i : ℕ) (xs : List A) (d : A) {ys : List A} {y : A} → ys ≡ laid i f xs → y ≡ f i → i < length xs
      → set ys i y ≡ laid (i + 1) f xs
  laid-turn f i xs d so_far value l = rw (so_far, value) (laid_more i f xs d l)

  pub laid-at : (n : ℕ) (f : ℕ → A) (xs : List A) (i : ℕ) (d : A) → i < n → get_or (laid n f xs) i d ≡ f i
  unfolding laid
  laid-at n f xs i d h = get_or-append (listed n f) (drop n xs) d i (rw (length-listed n f) h) ∙ get_or-listed n f i d h

  pub laid-length : (n : ℕ) (f : ℕ → A) (xs : List A) → n ≤ length xs → length (laid n f xs) ≡ length xs
  unfolding laid
  laid-length n f xs h = length-append (listed n f) (drop n xs) ∙ omega (arith, length-listed n f, length-drop n xs)

  -- the same from an equation
  pub laid-long : (n : ℕ) (f : ℕ → A) (xs : List A) {ys : List A} → ys ≡ laid n f xs → n ≤ length xs → length ys ≡ length xs
  laid-long n f xs e h = rw e (laid-length n f xs h)

  pub laid-cong : (n : ℕ) (f g : ℕ → A) (xs : List A) → ((i : ℕ) → i < n → f i ≡ g i) → laid n f xs ≡ laid n g xs
  unfolding laid
  laid-cong n f g xs h = rw (listed-cong n f g h)

  -- the first cells of a row, pasted over others
  pub paste-laid : (n : ℕ) (xs row : List A) (d : A) → n ≤ length row → paste xs 0 row n ≡ laid n (λ i. get_or row i d) xs
  unfolding laid
  paste-laid n xs row d l =
      ap (λ (k : ℕ). take n row ++ drop k xs) (zero-add n)
      ∙ ap (λ (r : List A). r ++ drop n xs) (take-listed n row (λ i. get_or row i d) d l (λ x b. refl))

  -- cells laid over themselves
  pub laid-self : (n : ℕ) (xs : List A) (d : A) → n ≤ length xs → laid n (λ i. get_or xs i d) xs ≡ xs
  unfolding laid
  laid-self n xs d l =
      ap (λ (r : List A). r ++ drop n xs) (sym (take-listed n xs (λ i. get_or xs i d) d l (λ x b. refl))) ∙ take-append-drop n xs

  -- past what is laid, what was there
  pub laid-past : (n : ℕ) (f : ℕ → A) (xs : List A) (i : ℕ) (d : A) → n ≤ i → get_or (laid n f xs) i d ≡ get_or xs i d
  unfolding laid
  laid-past n f xs i d l =
      let e : i ≡ length (listed n f) + (i - n) = omega (arith, length-listed n f) in
      let k : n + (i - n) ≡ i = omega arith in
      ap (λ (j : ℕ). get_or (listed n f ++ drop n xs) j d) e
      ∙ get_or-append-add (listed n f) (drop n xs) (i - n) d
      ∙ get_or-drop n xs (i - n) d
      ∙ ap (λ (j : ℕ). get_or xs j d) k

  -- one cell of what is laid, changed
  pub laid-set : (n : ℕ) (f g : ℕ → A) (xs : List A) (j : ℕ) (v d : A) → j < n → n ≤ length xs → v ≡ g j
      → ((i : ℕ) → i < n → (i ≡ j → ⊥) → f i ≡ g i) → set (laid n f xs) j v ≡ laid n g xs
  laid-set n f g xs j v d h l same others =
      let long = laid-length n f xs l in
      ext_get_or d (set (laid n f xs) j v) (laid n g xs) (length-set (laid n f xs) j v ∙ long ∙ sym (laid-length n g xs l))
      (λ i b. by i (ℕ_discrete i j) (dec_lt i n) (omega (arith, long)))
    where
      by : (i : ℕ) → Dec (i ≡ j) → Dec (i < n) → j < length (laid n f xs) → get_or (set (laid n f xs) j v) i d ≡ get_or (laid n g xs) i d
      by i (yes e) k b = rw e (get_or-set_same (laid n f xs) j v d b ∙ same ∙ sym (laid-at n g xs j d h))
      by i (no e) (yes k) b = get_or-set_other (laid n f xs) j i v d e ∙ laid-at n f xs i d k ∙ others i k e ∙ sym (laid-at n g xs i d k)
      by i (no e) (no k) b =
          get_or-set_other (laid n f xs) j i v d e ∙ laid-past n f xs i d (omega arith) ∙ sym (laid-past n g xs i d (omega arith))

  -- cells pasted behind those that are laid
  pub laid-paste : (k w : ℕ) (f : ℕ → A) (xs row : List A) (d : A) → w ≤ length row → k + w ≤ length xs → ((i : ℕ) → i < w → get_or row i d ≡ f (k + i))
      → paste (laid k f xs) k row w ≡ laid (k + w) f xs
  laid-paste k zero f xs row d few long same = sym (paste-zero (laid k f xs) k row) ∙ ap (λ (j : ℕ). laid j f xs) (sym (add-zero k))
  laid-paste k (suc w) f xs row d few long same =
      let so_far = laid-paste k w f xs row d (omega arith) (omega arith) (λ i l. same i (omega arith)) in
      let next : k + w + 1 ≡ k + suc w = omega arith in
      sym (paste-suc (laid k f xs) k row w d (omega (arith, laid-length k f xs (omega arith))) (omega arith))
      ∙ laid-turn f (k + w) xs d so_far (same w (omega arith)) (omega arith)
      ∙ ap (λ (j : ℕ). laid j f xs) next

  -- ---- rows laid over others
  pub laid_rows-none : (w : ℕ) (f : ℕ → ℕ → A) (xs : List A) → laid_rows 0 w f xs ≡ xs
  unfolding laid_rows
  laid_rows-none w f xs = let e : 0 * w ≡ 0 = omega arith in rw e (laid_none _ xs)

  pub laid_rows-at : (rows w : ℕ) (f : ℕ → ℕ → A) (xs : List A) (r x : ℕ) (d : A) → r < rows → x < w → get_or (laid_rows rows w f xs) (r * w + x) d ≡ f r x
  unfolding laid_rows
  laid_rows-at rows w f xs r x d h l =
      laid-at (rows * w) (λ i. f (i / w) (i % w)) xs (r * w + x) d (cell_below r rows x w h l) ∙ rw (digits_div r l, digits_mod r l)

  pub laid_rows-length : (rows w : ℕ) (f : ℕ → ℕ → A) (xs : List A) → rows * w ≤ length xs → length (laid_rows rows w f xs) ≡ length xs
  unfolding laid_rows
  laid_rows-length rows w f xs h = laid-length (rows * w) (λ i. f (i / w) (i % w)) xs h

  -- what is laid is read below the counts only
  pub laid_rows-cong : (rows w : ℕ) (f g : ℕ → ℕ → A) (xs : List A) → ((r : ℕ) → r < rows → (x : ℕ) → x < w → f r x ≡ g r x)
      → laid_rows rows w f xs ≡ laid_rows rows w g xs
  unfolding laid_rows
  laid_rows-cong rows zero f g xs h = laid-cong (rows * zero) _ _ xs (λ i l. absurd (omega arith))
  laid_rows-cong rows (suc w) f g xs h =
      laid-cong (rows * suc w) _ _ xs (λ i l. h (i / suc w) ((NatL.div-lt_iff_lt-mul (omega arith)).1 l) (i % suc w) (NatL.mod-lt i (omega arith)))

  -- rows that lie in a list already are its first cells
  pub laid_rows-flat : (rows w : ℕ) (row xs : List A) (d : A) → laid_rows rows w (λ r x. get_or row (r * w + x) d) xs ≡ laid (rows * w) (λ i. get_or row i d) xs
  unfolding laid_rows
  laid_rows-flat rows zero row xs d = laid-cong (rows * zero) _ _ xs (λ i l. absurd (omega arith))
  laid_rows-flat rows (suc w) row xs d = laid-cong (rows * suc w) _ _ xs (λ i l. ap (λ (k : ℕ). get_or row k d) (NatL.div-add-mod' i (suc w)))

  -- one row more
  pub laid_rows-more : (r w : ℕ) (f : ℕ → ℕ → A) (xs row : List A) (d : A) → (r + 1) * w ≤ length xs → w ≤ length row
      → ((x : ℕ) → x < w → get_or row x d ≡ f r x) → paste (laid_rows r w f xs) (r * w) row w ≡ laid_rows (r + 1) w f xs
  unfolding laid_rows laid
  laid_rows-more r w f xs row d h l e =
      let g : ℕ → A = λ i. f (i / w) (i % w) in
      let rows : (r + 1) * w ≡ r * w + w = omega arith in
      ap (λ (k : List A). k ++ take w row ++ drop (r * w + w) (listed (r * w) g ++ drop (r * w) xs))
      (take_at (listed (r * w) g) _ (r * w) (length-listed (r * w) g))
      ∙ ap (λ (k : List A). listed (r * w) g ++ take w row ++ k) (dropped g)
      ∙ ap (λ (k : List A). listed (r * w) g ++ k ++ drop (r * w + w) xs)
      (take-listed w row (λ x. g (r * w + x)) d l (λ x b. e x b ∙ rw (digits_div r b, digits_mod r b)))
      ∙ ap (λ (k : List A). k ++ drop (r * w + w) xs) (sym (listed-add (r * w) w g))
      ∙ ap (λ (k : ℕ). listed k g ++ drop k xs) (sym rows)
    where
      dropped : (g : ℕ → A) → drop (r * w + w) (listed (r * w) g ++ drop (r * w) xs) ≡ drop (r * w + w) xs
      dropped g =
          ap (λ (k : ℕ). drop (k + w) (listed (r * w) g ++ drop (r * w) xs)) (sym (length-listed (r * w) g))
          ∙ drop-append-add (listed (r * w) g) (drop (r * w) xs) w
          ∙ drop-drop w (r * w) xs

  -- ---- rows in an array of one's own
  pub grid-length : (z : A) (size rows w : ℕ) (f : ℕ → ℕ → A) → rows * w ≤ size → length (grid z size rows w f) ≡ size
  grid-length z size rows w f h = laid_rows-length rows w f (replicate size z) (rw (length-replicate size z) h) ∙ length-replicate size z

  listed_same : (z : A) (n : ℕ) → listed n (λ i. z) ≡ replicate n z
  unfolding listed
  listed_same z zero = refl
  listed_same z (suc n) = rw (listed_same z n) (replicate-append-replicate n 1 z) ∙ ap (λ (k : ℕ). replicate k z) (add-one n)

  drop-replicate : (z : A) (w k : ℕ) → drop w (replicate k z) ≡ replicate (k - w) z
  drop-replicate z zero k = ap (λ (n : ℕ). replicate n z) (let q : k ≡ k - 0 = omega arith in q)
  drop-replicate z (suc w) zero = ap (λ (n : ℕ). replicate n z) (let q : 0 ≡ 0 - suc w = omega arith in q)
  drop-replicate z (suc w) (suc k) = drop-replicate z w k ∙ ap (λ (n : ℕ). replicate n z) (let q : k - w ≡ suc k - suc w = omega arith in q)

  -- rows of what lies past them
  pub grid-zero : (z : A) (size rows w : ℕ) → rows * w ≤ size → grid z size rows w (λ r x. z) ≡ replicate size z
  unfolding laid_rows laid
  grid-zero z size rows w h =
      let e : rows * w + (size - rows * w) ≡ size = omega arith in
      rw (listed_same z (rows * w), drop-replicate z (rows * w) size) (replicate-append-replicate (rows * w) (size - rows * w) z)
      ∙ ap (λ (k : ℕ). replicate k z) e

  pub padded-same : (z : A) (size n : ℕ) → n ≤ size → padded z size n (λ i. z) ≡ replicate size z
  unfolding padded
  padded-same z size n h =
      let e : n + (size - n) ≡ size = omega arith in
      rw (listed_same z n) (replicate-append-replicate n (size - n) z) ∙ ap (λ (k : ℕ). replicate k z) e

  -- cells laid over those of an array that count
  pub laid-padded : (z : A) (size n : ℕ) (f g : ℕ → A) → laid n g (padded z size n f) ≡ padded z size n g
  unfolding padded laid
  laid-padded z size n f g =
      let e : n ≡ length (listed n f) + 0 = omega (arith, length-listed n f) in
      ap (λ (k : ℕ). listed n g ++ drop k (listed n f ++ replicate (size - n) z)) e
      ∙ ap (λ (l : List A). listed n g ++ l) (drop-append-add (listed n f) (replicate (size - n) z) 0)

-- a default that fills a list is found at every place
pub replicate-at : {A : Type 0} (z : A) (n i : ℕ) → get_or (replicate n z) i z ≡ z
replicate-at z zero i = refl
replicate-at z (suc n) zero = refl
replicate-at z (suc n) (suc i) = replicate-at z n i

-- zeros, or some other thing, over the first n cells
pub same-laid : {A : Type 0} (z : A) (size n : ℕ) (xs : List A) → n ≤ size → paste xs 0 (replicate size z) n ≡ laid n (λ i. z) xs
same-laid z size n xs l =
    paste-laid n xs (replicate size z) z (rw (length-replicate size z) l) ∙ laid-cong n _ _ xs (λ i b. replicate-at z size i)

-- ---- bounds on what an array is filled with
pub filled-below : (size : ℕ) {n limit : ℕ} (f : ℕ → ℕ) {xs : List ℕ} → xs ≡ padded 0 size n f → n ≤ size → ((i : ℕ) → i < n → f i ≤ limit)
    → Below limit n xs
filled-below size {n} f e few h = record {
  long = rw (e, padded-length 0 size n f few) few;
  below = λ i l. rw (e, padded-at 0 size n f i 0 l) (h i l);
}

pub filled_within : (size : ℕ) {n limit : ℕ} (f : ℕ → ℤ) {xs : List ℤ} → xs ≡ padded (pos 0) size n f → n ≤ size → ((i : ℕ) → i < n → nat_abs (f i) ≤ limit)
    → Within limit n xs
filled_within size {n} f e few h = record {
  long = rw (e, padded-length (pos 0) size n f few) few;
  within = λ i l. rw (e, padded-at (pos 0) size n f i (pos 0) l) (h i l);
}
