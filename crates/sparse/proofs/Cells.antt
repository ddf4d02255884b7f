-- Laws of sums over the cells of a column, one cell after the other. Assumes nothing.
--
-- In order: sums of states, to each of which the first cells have added T × x; a state of a mask among the cells; a column, from where its cells lie; sums
-- onward, one column after the other.
use Rattle.integers.proofs.Kit.{◌≡◌, ◌∙◌, refl, ap, sym, true, false, Bool, cond, List, ℕ, ◌≤◌, ◌<◌, ◌+◌, ◌*◌, ◌-◌, suc, zero, arith, add-zero, mul-le-mul}
use Rattle.integers.proofs.Kit.{mul-le-mul_right, dec_lt, get_or, set, length, eqb, eq-eqb, ne_eqb, ℤ, pos, ◌+ℤ◌, nat_abs, ◌^◌, ◌&&◌, ltb, lt-ltb, false≢true}
use native.Mathlib.Nat as NatL
use Rattle.integers.specs.Whole.{◌·◌, sum_to, total_to, Within}
use Rattle.integers.specs.Cells.{laid, padded}
use Rattle.integers.proofs.Lists.{laid-at, laid-cong, laid-padded, laid-self, laid-set, padded-at}
use Rattle.integers.proofs.Order.{add_assoc, add_none, add-·, zero-·}
use Rattle.integers.proofs.Sizes.{abs-add, abs-times}
use Rattle.integers.proofs.Sums.{total-cong, total-more, total-none, total-add, total-fewer, total-part, total-zero, sum_step}
use Rattle.integers.proofs.Terms.{Terms, terms-limit}
use Rattle.tables.specs.Limits.{max_states, one}
use Rattle.tables.specs.Storage.{weight_in, row_place}
use Rattle.integers.specs.Search.{some}
use Rattle.integers.proofs.Searches.{some_at, and_is, some-none}
use Rattle.masks.specs.Masks.{covered}
use Rattle.columns.specs.Columns.{state_of, chance_of, said_for, turned_back}
use Rattle.columns.specs.Steps.{ColumnStored, ColumnFits, ColumnsFit}
use Rattle.sums.specs.Steps.{foreseen_limit, onward_limit}
use Rattle.sparse.specs.Steps.{onward_said}

module _ (list : List ℕ) (first : ℕ) where
  -- what cell i has for state s
  abbrev pub chance_at : ℕ → ℕ → ℕ
  chance_at s i = let w = get_or list (first + i) 0 in cond (eqb (state_of w) s) (chance_of w) 0

  -- the sum down the first cells
  abbrev pub down_to : List ℕ → ℕ → ℕ
  down_to p i = total_to i (λ k. weight_in p (state_of (get_or list (first + k) 0)) * chance_of (get_or list (first + k) 0))

  -- of a sum over states of which one has a term, that term is left
  one-term : (n r x : ℕ) (p : ℕ → ℕ) → r < n → total_to n (λ s. p s * cond (eqb r s) x 0) ≡ p r * x
  unfolding total_to
  one-term zero r x p l = absurd (omega arith)
  one-term (suc n) r x p l = by (dec_lt r n) (λ h. one-term n r x p h) (no-term n)
    where
      no-term : (k : ℕ) → k ≤ r → total_to k (λ s. p s * cond (eqb r s) x 0) ≡ 0
      no-term zero h = refl
      no-term (suc k) h = rw (no-term k (omega arith), ne_eqb r k (λ e. let n : ⊥ = omega arith in n)) (omega arith)

      by : Dec (r < n) → (r < n → total_to n (λ s. p s * cond (eqb r s) x 0) ≡ p r * x) → (n ≤ r → total_to n (λ s. p s * cond (eqb r s) x 0) ≡ 0)
          → total_to n (λ s. p s * cond (eqb r s) x 0) + p n * cond (eqb r n) x 0 ≡ p r * x
      by (yes h) r₁ r₂ = rw (r₁ h, ne_eqb r n (λ e. let n : ⊥ = omega arith in n)) (omega arith)
      by (no h) r₁ r₂ = let e : n ≡ r = omega arith in rw (r₂ (omega arith), e, eq-eqb r r refl) (omega arith)

  -- by states, it is the sum over them of weight × what the cells have for each
  pub down-by-states : (n : ℕ) (p : List ℕ) (i : ℕ) → ((k : ℕ) → k < i → state_of (get_or list (first + k) 0) < n)
      → down_to p i ≡ total_to n (λ s. weight_in p s * said_for list first i s)
  unfolding total_to
  down-by-states n p zero h = sym (none n)
    where
      none : (n : ℕ) → total_to n (λ s. weight_in p s * 0) ≡ 0
      none zero = refl
      none (suc n) = rw (none n) (omega arith)
  down-by-states n p (suc i) h =
      let w = get_or list (first + i) 0 in
      ap (λ (k : ℕ). k + weight_in p (state_of w) * chance_of w) (down-by-states n p i (λ k l. h k (omega arith)))
      ∙ ap (λ (k : ℕ). total_to n (λ s. weight_in p s * said_for list first i s) + k)
      (sym (one-term n (state_of w) (chance_of w) (weight_in p) (h i (omega arith))))
      ∙ sym (total-add n (λ s. weight_in p s * said_for list first i s) (λ s. weight_in p s * chance_at s i))
      ∙ total-cong n _ _ (λ s l. sym (NatL.mul-add (weight_in p s) (said_for list first i s) (chance_at s i)))

  -- what one cell adds: its chance at its state, nothing elsewhere
  chance-here : (i : ℕ) → chance_at (state_of (get_or list (first + i) 0)) i ≡ chance_of (get_or list (first + i) 0)
  chance-here i = rw (eq-eqb (state_of (get_or list (first + i) 0)) (state_of (get_or list (first + i) 0)) refl) refl

  chance-elsewhere : (i s : ℕ) → (s ≡ state_of (get_or list (first + i) 0) → ⊥) → chance_at s i ≡ 0
  chance-elsewhere i s h = rw (ne_eqb (state_of (get_or list (first + i) 0)) s (λ e. h (sym e))) refl

  -- ---- sums of states, to each of which the first cells have added T × x
  module _ (n : ℕ) (x : ℤ) (sums : List ℤ) (long : n ≤ length sums) where
    abbrev pub added_to : ℕ → ℕ → ℤ
    added_to i s = get_or sums s (pos 0) +ℤ said_for list first i s · x

    pub added_none : laid n (added_to 0) sums ≡ sums
    added_none =
        laid-cong n (added_to 0) (λ s. get_or sums s (pos 0)) sums (λ s l. rw (total-none (chance_at s), zero-· x) (add_none (get_or sums s (pos 0))))
        ∙ laid-self n sums (pos 0) long

    -- one cell more, at its state
    pub added_more : (i : ℕ) {ys : List ℤ} {v : ℤ} {r ch : ℕ} → ys ≡ laid n (added_to i) sums → r ≡ state_of (get_or list (first + i) 0)
        → ch ≡ chance_of (get_or list (first + i) 0) → r < n → v ≡ get_or ys r (pos 0) +ℤ ch · x → set ys r v ≡ laid n (added_to (i + 1)) sums
    added_more i {r} {ch} so_far state chance l e =
        rw so_far (laid-set n (added_to i) (added_to (i + 1)) sums r _ (pos 0) l long
        (e ∙ rw (so_far, laid-at n (added_to i) sums r (pos 0) l, chance) here)
        (λ s k other. ap (λ (z : ℕ). get_or sums s (pos 0) +ℤ z · x)
        (sym (total-more i (chance_at s) ∙ rw (chance-elsewhere i s (λ q. other (q ∙ sym state))) (add-zero (said_for list first i s))))))
      where
        here : added_to i r +ℤ chance_of (get_or list (first + i) 0) · x ≡ added_to (i + 1) r
        here =
            rw (state, total-more i (chance_at (state_of (get_or list (first + i) 0))), chance-here i, add-·)
            (add_assoc (get_or sums (state_of (get_or list (first + i) 0)) (pos 0)) _ _)

    -- the sum of a state with one cell more fits 64 bits, if that with all does
    pub added-fits : (i count : ℕ) {ys : List ℤ} → ys ≡ laid n (added_to i) sums → i < count → state_of (get_or list (first + i) 0) < n
        → ((s : ℕ) → s < n → nat_abs (get_or sums s (pos 0)) + said_for list first count s * nat_abs x < 2 ^ 63)
        → nat_abs (get_or ys (state_of (get_or list (first + i) 0)) (pos 0)) + chance_of (get_or list (first + i) 0) * nat_abs x < 2 ^ 63
    added-fits i count so_far l h fits =
        let r = state_of (get_or list (first + i) 0) in
        let ch = chance_of (get_or list (first + i) 0) in
        let more : said_for list first i r + ch ≤ said_for list first count r =
        rw (← chance-here i, ← total-more i (chance_at r)) (total-fewer (i + 1) count (chance_at r) (omega arith)) in
        rw (so_far, laid-at n (added_to i) sums r (pos 0) h)
        (omega (
          arith,
          fits r h,
          abs-add (get_or sums r (pos 0)) (said_for list first i r · x),
          abs-times (said_for list first i r) x,
          mul-le-mul_right (nat_abs x) more,
          NatL.add-mul (said_for list first i r) ch (nat_abs x),
        ))

-- ---- a state of a mask among the cells
module _ (mask : ℕ) {n first count : ℕ} {list : List ℕ} (fit : ColumnStored n list first count) where
  abbrev here : ℕ → Bool
  here s = covered mask s && ltb 0 (said_for list first count s)

  -- a cell's state has a chance above 0
  pub covered-here : (i : ℕ) → i < count → covered mask (state_of (get_or list (first + i) 0)) ≡ true → some n here ≡ true
  covered-here i l e =
      let r = state_of (get_or list (first + i) 0) in
      let chance : 0 < said_for list first count r =
      omega (arith, fit.some_chance i l, chance-here list first i, total-part count (chance_at list first r) i l) in
      some_at n here r (fit.state_in i l) (and_is e (lt-ltb _ _ chance))

  -- where no cell's state is in the mask, a state of it has none
  pub none-covered : ((i : ℕ) → i < count → covered mask (state_of (get_or list (first + i) 0)) ≡ false) → some n here ≡ false
  none-covered h = some-none n here (λ s l. by s (covered mask s) refl)
    where
      by : (s : ℕ) (b : Bool) → covered mask s ≡ b → (b && ltb 0 (said_for list first count s)) ≡ false
      by s false e = refl
      by s true e =
          let none : said_for list first count s ≡ 0 =
          total-cong count (chance_at list first s) (λ i. 0)
          (λ i l. chance-elsewhere list first i s (λ q. false≢true (sym (h i l) ∙ ap (covered mask) (sym q) ∙ e))) ∙ total-zero count in
          rw none refl

-- ---- a column, from where its cells lie
module _ (n : ℕ) (list : List ℕ) (a to : ℕ) {first count : ℕ} (starts : first ≡ get_or list (row_place n a to) 0)
    (counts : count ≡ get_or list (row_place n a to + 1) 0 - get_or list (row_place n a to) 0) where
  pub cells_fit : ColumnFits n list (row_place n a to) → ColumnStored n list first count
  cells_fit h = rw (starts, counts) h.cells

  pub said-turned : (s : ℕ) → said_for list first count s ≡ turned_back n list s a to
  unfolding turned_back
  said-turned s = rw (starts, counts) refl

-- ---- sums onward, one column after the other

-- the sum over the first states reached
abbrev pub onward_to : ℕ → List ℕ → List ℤ → ℕ → ℕ → ℕ → ℤ
onward_to n list f a to s = sum_to to (λ s'. turned_back n list s a s' · get_or f s' (pos 0))

pub onward-more : (size n : ℕ) (list : List ℕ) (f : List ℤ) (a to : ℕ) {sums ys : List ℤ} {x : ℤ}
    → sums ≡ padded (pos 0) size n (onward_to n list f a to) → x ≡ get_or f to (pos 0)
    → ys ≡ laid n (λ s. get_or sums s (pos 0) +ℤ turned_back n list s a to · x) sums → ys ≡ padded (pos 0) size n (onward_to n list f a (to + 1))
onward-more size n list f a to so_far value e =
    e
    ∙ rw (so_far, value) (laid-cong n _ (onward_to n list f a (to + 1)) _ (λ s l.
    rw (padded-at (pos 0) size n (onward_to n list f a to) s (pos 0) l) (sum_step to (λ s'. turned_back n list s a s' · get_or f s' (pos 0)) refl))
    ∙ laid-padded (pos 0) size n (onward_to n list f a to) (onward_to n list f a (to + 1)))

-- how large they are
module _ {n a s : ℕ} {list : List ℕ} {f : List ℤ} (fit : ColumnsFit n list a) (within : Within foreseen_limit n f) (few : n ≤ max_states) (l : s < n) where
  terms : Terms n one foreseen_limit (λ s'. turned_back n list s a s') (λ s'. get_or f s' (pos 0))
  terms = record { weights = fit.limit s l; values = within.within }

  -- one column more fits 64 bits
  pub onward-fits : (to : ℕ) → to < n
      → nat_abs (onward_to n list f a to s) + turned_back n list s a to * nat_abs (get_or f to (pos 0)) < 2 ^ 63
  onward-fits to h =
      omega (
        arith,
        terms-limit terms to (omega arith),
        mul-le-mul (fit.limit s l to h) (within.within to h),
        mul-le-mul_right (one * foreseen_limit) (let k : to + 1 ≤ max_states = omega arith in k),
      )

  pub onward-within : nat_abs (onward_said n list f s a) ≤ onward_limit
  unfolding onward_said
  onward-within = omega (arith, terms-limit terms n (omega arith), mul-le-mul_right (one * foreseen_limit) few)
