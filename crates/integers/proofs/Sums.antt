-- The algebra of sums over an index: none, one more, term by term, split, scaled, swapped. Assumes nothing.
--
-- In order: as a loop makes them; term by term; split, scaled, swapped; the largest.
use Rattle.integers.proofs.Kit.{◌≡◌, ◌∙◌, refl, ap, sym, ℕ, ◌≤◌, ◌<◌, ◌+◌, ◌*◌, suc, zero, arith, add-one, dec_lt, ℤ, pos, ◌+ℤ◌, ◌≤ℤ◌}
use Prim.Native.Nat.{max}
use native.Mathlib.Nat as NatL
use native.Mathlib.Decide.{dec_le}
use Rattle.integers.specs.Whole.{◌·◌, sum_to, total_to, largest_to}
use Rattle.integers.proofs.Order.{≤-refl, add-mono, add_comm, add_assoc, add_left_comm, ·-add, ·-·, add-·, ·-zero, zero-·}

-- ---- as a loop makes them
pub sum-none : (f : ℕ → ℤ) → sum_to 0 f ≡ pos 0
unfolding sum_to
sum-none f = refl

pub sum_more : (n : ℕ) (f : ℕ → ℤ) → sum_to (n + 1) f ≡ sum_to n f +ℤ f n
unfolding sum_to
sum_more n f = rw add-one

pub sum_step : (n : ℕ) (f : ℕ → ℤ) {x : ℤ} → x ≡ sum_to n f → x +ℤ f n ≡ sum_to (n + 1) f
sum_step n f e = ap (λ (z : ℤ). z +ℤ f n) e ∙ sym (sum_more n f)

pub total-none : (f : ℕ → ℕ) → total_to 0 f ≡ 0
unfolding total_to
total-none f = refl

pub total-more : (n : ℕ) (f : ℕ → ℕ) → total_to (n + 1) f ≡ total_to n f + f n
unfolding total_to
total-more n f = rw add-one

pub total-step : (n : ℕ) (f : ℕ → ℕ) {x : ℕ} → x ≡ total_to n f → x + f n ≡ total_to (n + 1) f
total-step n f e = ap (λ (z : ℕ). z + f n) e ∙ sym (total-more n f)

-- ---- term by term
pub sum-cong : (n : ℕ) (f g : ℕ → ℤ) → ((i : ℕ) → i < n → f i ≡ g i) → sum_to n f ≡ sum_to n g
unfolding sum_to
sum-cong zero f g h = refl
sum-cong (suc n) f g h = rw (sum-cong n f g (λ i l. h i (omega arith)), h n (omega arith))

pub sum_mono : (n : ℕ) (f g : ℕ → ℤ) → ((i : ℕ) → i < n → f i ≤ℤ g i) → sum_to n f ≤ℤ sum_to n g
unfolding sum_to
sum_mono zero f g h = ≤-refl _
sum_mono (suc n) f g h = add-mono (sum_mono n f g (λ i l. h i (omega arith))) (h n (omega arith))

pub total-cong : (n : ℕ) (f g : ℕ → ℕ) → ((i : ℕ) → i < n → f i ≡ g i) → total_to n f ≡ total_to n g
unfolding total_to
total-cong zero f g h = refl
total-cong (suc n) f g h = rw (total-cong n f g (λ i l. h i (omega arith)), h n (omega arith))

pub total-bound : (n B : ℕ) (f : ℕ → ℕ) → ((i : ℕ) → i < n → f i ≤ B) → total_to n f ≤ n * B
unfolding total_to
total-bound zero B f h = omega arith
total-bound (suc n) B f h = omega (arith, total-bound n B f (λ i l. h i (omega arith)), h n (omega arith))

-- one term is at most the total, and some terms at most all
pub total-part : (n : ℕ) (f : ℕ → ℕ) (i : ℕ) → i < n → f i ≤ total_to n f
unfolding total_to
total-part zero f i l = absurd (omega arith)
total-part (suc n) f i l = by (dec_lt i n) (λ h. total-part n f i h)
  where
    by : Dec (i < n) → (i < n → f i ≤ total_to n f) → f i ≤ total_to n f + f n
    by (yes h) r = omega (arith, r h)
    by (no h) r = let e : i ≡ n = omega arith in rw e (omega arith)

pub total-fewer : (j n : ℕ) (f : ℕ → ℕ) → j ≤ n → total_to j f ≤ total_to n f
unfolding total_to
total-fewer j zero f l = let e : j ≡ 0 = omega arith in rw e (omega arith)
total-fewer j (suc n) f l = by (dec_lt n j) (λ h. total-fewer j n f h)
  where
    by : Dec (n < j) → (j ≤ n → total_to j f ≤ total_to n f) → total_to j f ≤ total_to n f + f n
    by (yes h) r = let e : j ≡ suc n = omega arith in rw e (omega arith)
    by (no h) r = omega (arith, r (omega arith))

-- ---- split, scaled, swapped
pub sum-add : (n : ℕ) (f g : ℕ → ℤ) → sum_to n (λ i. f i +ℤ g i) ≡ sum_to n f +ℤ sum_to n g
unfolding sum_to
sum-add zero f g = refl
sum-add (suc n) f g = rw (sum-add n f g) (simp (add_assoc, add_left_comm, add_comm))

pub sum-· : (k n : ℕ) (f : ℕ → ℤ) → sum_to n (λ i. k · f i) ≡ k · sum_to n f
unfolding sum_to
sum-· k zero f = sym (·-zero k)
sum-· k (suc n) f = rw (sum-· k n f, ·-add)

-- a factor, inside a sum of products
pub sum-spread : (t n : ℕ) (k : ℕ → ℕ) (f : ℕ → ℤ) → t · sum_to n (λ i. k i · f i) ≡ sum_to n (λ i. (t * k i) · f i)
sum-spread t n k f = sym (sum-· t n _) ∙ sum-cong n _ _ (λ i l. sym (·-· t (k i) (f i)))

pub sum-zero : (n : ℕ) → sum_to n (λ i. pos 0) ≡ pos 0
unfolding sum_to
sum-zero zero = refl
sum-zero (suc n) = rw (sum-zero n) refl

pub sum-swap : (m n : ℕ) (f : ℕ → ℕ → ℤ) → sum_to m (λ i. sum_to n (λ j. f i j)) ≡ sum_to n (λ j. sum_to m (λ i. f i j))
unfolding sum_to
sum-swap zero n f = sym (sum-zero n)
sum-swap (suc m) n f = rw (sum-swap m n f) (sym (sum-add n (λ j. sum_to m (λ i. f i j)) (f m)))

pub total-· : (n : ℕ) (f : ℕ → ℕ) (z : ℤ) → total_to n f · z ≡ sum_to n (λ i. f i · z)
unfolding total_to sum_to
total-· zero f z = zero-· z
total-· (suc n) f z = rw (add-·, total-· n f z)

pub total-mul : (n k : ℕ) (f : ℕ → ℕ) → total_to n (λ i. k * f i) ≡ k * total_to n f
unfolding total_to
total-mul zero k f = omega arith
total-mul (suc n) k f = omega (arith, total-mul n k f)

pub total-mul-right : (n k : ℕ) (f : ℕ → ℕ) → total_to n (λ i. f i * k) ≡ total_to n f * k
unfolding total_to
total-mul-right zero k f = omega arith
total-mul-right (suc n) k f = omega (arith, total-mul-right n k f)

pub total-zero : (n : ℕ) → total_to n (λ i. 0) ≡ 0
unfolding total_to
total-zero zero = refl
total-zero (suc n) = rw (total-zero n)

pub total-add : (n : ℕ) (f g : ℕ → ℕ) → total_to n (λ i. f i + g i) ≡ total_to n f + total_to n g
unfolding total_to
total-add zero f g = refl
total-add (suc n) f g = omega (arith, total-add n f g)

pub total-swap : (m n : ℕ) (f : ℕ → ℕ → ℕ) → total_to m (λ i. total_to n (λ j. f i j)) ≡ total_to n (λ j. total_to m (λ i. f i j))
unfolding total_to
total-swap zero n f = sym (total-zero n)
total-swap (suc m) n f = rw (total-swap m n f) (sym (total-add n (λ j. total_to m (λ i. f i j)) (f m)))

-- term by term, with a factor in front of one sum
pub ·-sum-≤ : (k n : ℕ) (f g : ℕ → ℤ) → ((i : ℕ) → i < n → k · f i ≤ℤ g i) → k · sum_to n f ≤ℤ sum_to n g
·-sum-≤ k n f g h = rw (← sum-·) (sum_mono n _ g h)

pub ≤-·-sum : (k n : ℕ) (f g : ℕ → ℤ) → ((i : ℕ) → i < n → g i ≤ℤ k · f i) → sum_to n g ≤ℤ k · sum_to n f
≤-·-sum k n f g h = rw (← sum-·) (sum_mono n g _ h)

-- ---- the largest
max_ind : (P : ℕ → Type 0) (a b : ℕ) → P a → P b → P (max a b)
max_ind P a b p q = by (dec_le a b)
  where
    by : Dec (a ≤ b) → P (max a b)
    by (yes h) = rw (NatL.max-eq_right h) q
    by (no h) = let l : b ≤ a = omega arith in rw (NatL.max-eq_left l) p

-- what holds of 0 and of each holds of the largest
pub largest-ind : (P : ℕ → Type 0) (n : ℕ) (f : ℕ → ℕ) → P 0 → ((i : ℕ) → i < n → P (f i)) → P (largest_to n f)
unfolding largest_to
largest-ind P zero f p h = p
largest-ind P (suc n) f p h = max_ind P _ _ (largest-ind P n f p (λ i l. h i (omega arith))) (h n (omega arith))

pub largest-part : (n : ℕ) (f : ℕ → ℕ) (i : ℕ) → i < n → f i ≤ largest_to n f
unfolding largest_to
largest-part zero f i l = absurd (omega arith)
largest-part (suc n) f i l = by (dec_lt i n) (λ h. largest-part n f i h)
  where
    by : Dec (i < n) → (i < n → f i ≤ largest_to n f) → f i ≤ max (largest_to n f) (f n)
    by (yes h) r = NatL.le_trans (r h) (NatL.le-max_left (largest_to n f) (f n))
    by (no h) r = let e : i ≡ n = omega arith in rw e (NatL.le-max_right (largest_to n f) (f n))

pub largest-none : (f : ℕ → ℕ) → largest_to 0 f ≡ 0
unfolding largest_to
largest-none f = refl

pub largest-more : (n : ℕ) (f : ℕ → ℕ) → largest_to (n + 1) f ≡ max (largest_to n f) (f n)
unfolding largest_to
largest-more n f = rw add-one

pub largest_to-cong : (n : ℕ) (f g : ℕ → ℕ) → ((i : ℕ) → i < n → f i ≡ g i) → largest_to n f ≡ largest_to n g
unfolding largest_to
largest_to-cong zero f g h = refl
largest_to-cong (suc n) f g h = rw (largest_to-cong n f g (λ i l. h i (omega arith)), h n (omega arith))
