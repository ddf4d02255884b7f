-- Laws of the searches: as a loop makes them, and what their answers say. Assumes nothing.
--
-- In order: one test; every; some; the first largest of those that p holds of; the first largest of all.
use Rattle.integers.proofs.Kit.{◌≡◌, ◌∙◌, refl, sym, true, false, Bool, cond, ◌&&◌, ℕ, ◌<◌, ◌+◌, suc, zero, arith, add-one, dec_lt, T, ℤ, ◌≤ℤ◌, and_assoc}
use Rattle.integers.proofs.Kit.{◌||◌, ap, ◌≤◌, ◌*◌, ◌-◌, add-zero, mul-le-mul, eqb, eq-eqb, ne_eqb, lt_z, ◌<ℤ◌, or-true, or-false}
use mathlib.Core.Bool.{not}
use mathlib.Core.Bool as BoolL
use native.Mathlib.Nat.{add-suc}
use lib.Signed.{lt_z_yes, lt_z_no}
use Rattle.integers.specs.Search.{every, some, first_largest_of, first_largest}
use Rattle.integers.proofs.Parts.{is_T}
use Rattle.integers.proofs.Order.{≤-refl, ≤_trans, <-≤}

-- what holds below n and at n holds below n + 1
pub below_suc : {P : ℕ → Type 0} (n : ℕ) → ((i : ℕ) → i < n → P i) → P n → (i : ℕ) → i < suc n → P i
below_suc {P} n f p i l = by (dec_lt i n)
  where
    by : Dec (i < n) → P i
    by (yes h) = f i h
    by (no h) = let e : i ≡ n = omega arith in rw e p

-- ---- one test
-- what holds of both holds of the one that is taken
pub cond-by : {A : Type 0} (P : A → Type 0) (c : Bool) {x y : A} → P x → P y → P (cond c x y)
cond-by P true p q = p
cond-by P false p q = q

-- a product with a number above 0 is 0 where the other is
pub times_none : (t w : ℕ) → 0 < t → eqb (t * w) 0 ≡ eqb w 0
times_none t zero h = eq-eqb (t * 0) 0 (omega arith)
times_none t (suc w) h =
    let least : 1 ≤ suc w = omega arith in
    let above : 1 * 1 ≤ t * suc w = mul-le-mul h least in
    ne_eqb (t * suc w) 0 (λ e. absurd (omega arith)) ∙ sym (ne_eqb (suc w) 0 (λ e. absurd (omega arith)))

-- what is asked only of a number above 0
pub zero_or : (n : ℕ) (b : Bool) → (0 < n → b ≡ true) → (eqb n 0 || b) ≡ true
zero_or zero b h = refl
zero_or (suc n) b h = rw (ne_eqb (suc n) 0 (λ e. omega arith)) (h (omega arith))

-- ---- every
pub and-true : (a b : Bool) → (a && b) ≡ true → (a ≡ true) × (b ≡ true)
and-true true b e = (refl, e)
and-true false b e = absurd (is_T e)

pub and_is : {a b : Bool} → a ≡ true → b ≡ true → (a && b) ≡ true
and_is e f = rw (e, f)

pub every-none : (p : ℕ → Bool) → every 0 p ≡ true
unfolding every
every-none p = refl

pub every_more : (n : ℕ) (p : ℕ → Bool) → every n p ≡ true → p n ≡ true → every (n + 1) p ≡ true
unfolding every
every_more n p e f = rw (add-one, e, f)

pub every-at : (n : ℕ) (p : ℕ → Bool) → every n p ≡ true → (i : ℕ) → i < n → p i ≡ true
unfolding every
every-at zero p e i l = absurd (omega arith)
every-at (suc n) p e i l =
    below_suc n (λ i l. every-at n p (and-true (every n p) (p n) e).0 i l) (and-true (every n p) (p n) e).1 i l

pub at_every : (n : ℕ) (p : ℕ → Bool) → ((i : ℕ) → i < n → p i ≡ true) → every n p ≡ true
unfolding every
at_every zero p h = refl
at_every (suc n) p h = and_is (at_every n p (λ i l. h i (omega arith))) (h n (omega arith))

-- one index that fails
pub every-not : (n : ℕ) (p : ℕ → Bool) (i : ℕ) → i < n → p i ≡ false → every n p ≡ false
every-not n p i l e = by (every n p) refl
  where
    by : (b : Bool) → every n p ≡ b → every n p ≡ false
    by true f = let x : true ≡ false = sym (every-at n p f i l) ∙ e in absurd (is_T (sym x))
    by false f = f

pub every-cong : (n : ℕ) (p q : ℕ → Bool) → ((i : ℕ) → i < n → p i ≡ q i) → every n p ≡ every n q
unfolding every
every-cong zero p q h = refl
every-cong (suc n) p q h = rw (every-cong n p q (λ i l. h i (omega arith)), h n (omega arith))

-- the indices below a, then those from a on
pub every-add : (a b : ℕ) (p : ℕ → Bool) → every (a + b) p ≡ (every a p && every b (λ i. p (a + i)))
unfolding every
every-add a zero p = ap (λ (k : ℕ). every k p) (add-zero a) ∙ sym (BoolL.and-true (every a p))
every-add a (suc b) p =
    ap (λ (k : ℕ). every k p) (add-suc a b) ∙ rw (every-add a b p) (and_assoc (every a p) (every b (λ i. p (a + i))) (p (a + b)))

-- what fails below k fails below any larger n
pub every-short : (k n : ℕ) (p : ℕ → Bool) → k ≤ n → every k p ≡ false → every n p ≡ false
every-short k n p l e =
    let all : n ≡ k + (n - k) = omega arith in
    ap (λ (j : ℕ). every j p) all ∙ every-add k (n - k) p ∙ rw e refl

-- ---- some
pub some_at : (n : ℕ) (p : ℕ → Bool) (i : ℕ) → i < n → p i ≡ true → some n p ≡ true
unfolding some
some_at zero p i l e = absurd (omega arith)
some_at (suc n) p i l e = by (dec_lt i n) (λ h. some_at n p i h e)
  where
    by : Dec (i < n) → (i < n → some n p ≡ true) → (some n p || p n) ≡ true
    by (yes h) r = rw (r h) refl
    by (no h) r = let same : n ≡ i = omega arith in rw (same, e) (or-true (some i p))

pub some-index : (n : ℕ) (p : ℕ → Bool) → some n p ≡ true → 0 < n
unfolding some
some-index zero p h = absurd (is_T h)
some-index (suc n) p h = omega arith

pub some-none : (n : ℕ) (p : ℕ → Bool) → ((i : ℕ) → i < n → p i ≡ false) → some n p ≡ false
unfolding some
some-none zero p h = refl
some-none (suc n) p h = rw (some-none n p (λ i l. h i (omega arith)), h n (omega arith)) refl

pub some-cong : (n : ℕ) (p q : ℕ → Bool) → ((i : ℕ) → i < n → p i ≡ q i) → some n p ≡ some n q
unfolding some
some-cong zero p q h = refl
some-cong (suc n) p q h = rw (some-cong n p q (λ i l. h i (omega arith)), h n (omega arith))

-- ---- the first largest of those that p holds of
module _ (p : ℕ → Bool) (f : ℕ → ℤ) where
  pub of-first : first_largest_of 1 p f ≡ 0
  unfolding first_largest_of
  of-first = by (p 0 && (not (p 0) || lt_z (f 0) (f 0)))
    where
      by : (c : Bool) → cond {A = ℕ} c 0 0 ≡ 0
      by true = refl
      by false = refl

  -- the next index takes its place, or does not
  pub of-later : (n : ℕ) → p n ≡ true → (not (p (first_largest_of n p f)) || lt_z (f (first_largest_of n p f)) (f n)) ≡ true → first_largest_of (n + 1) p f ≡ n
  unfolding first_largest_of
  of-later n e h = rw (add-one, e, h)

  pub of-same : (n : ℕ) → (p n && (not (p (first_largest_of n p f)) || lt_z (f (first_largest_of n p f)) (f n))) ≡ false
      → first_largest_of (n + 1) p f ≡ first_largest_of n p f
  unfolding first_largest_of
  of-same n e = rw (add-one, e)

  pub of-in : (n : ℕ) → 0 < n → first_largest_of n p f < n
  unfolding first_largest_of
  of-in zero h = h
  of-in (suc zero) h = rw of-first (omega arith)
  of-in (suc (suc n)) h = by (p (suc n) && (not (p i) || lt_z (f i) (f (suc n)))) (of-in (suc n) (omega arith))
    where
      i : ℕ
      i = first_largest_of (suc n) p f

      by : (c : Bool) → i < suc n → cond c (suc n) i < suc (suc n)
      by true l = omega arith
      by false l = omega arith

  -- where p holds of some index, it holds of the one found, and f is nowhere larger among those
  pub of-holds : (n i : ℕ) → i < n → p i ≡ true → p (first_largest_of n p f) ≡ true
  unfolding first_largest_of
  of-holds zero i l e = absurd (omega arith)
  of-holds (suc n) i l e = by (p n) refl (p j) refl (lt_z (f j) (f n)) (dec_lt i n) (λ d. of-holds n i d e)
    where
      j : ℕ
      j = first_largest_of n p f

      by : (a : Bool) → p n ≡ a → (b : Bool) → p j ≡ b → (c : Bool) → Dec (i < n) → (i < n → p j ≡ true) → p (cond (a && (not b || c)) n j) ≡ true
      by true h false k c d r = h
      by true h true k true d r = h
      by true h true k false d r = k
      by false h b k c (yes d) r = r d
      by false h b k c (no d) r = let same : i ≡ n = omega arith in absurd (is_T (sym (sym e ∙ ap p same ∙ h)))

  pub of_some : (n : ℕ) → some n p ≡ true → p (first_largest_of n p f) ≡ true
  unfolding some first_largest_of
  of_some zero h = absurd (is_T h)
  of_some (suc n) h = by (p n) refl h (λ k. of_some n k)
    where
      j : ℕ
      j = first_largest_of n p f

      by : (a : Bool) → p n ≡ a → (some n p || a) ≡ true → (some n p ≡ true → p j ≡ true) → p (cond (a && (not (p j) || lt_z (f j) (f n))) n j) ≡ true
      by true e k r = rw e at (of-holds (suc n) n (omega arith) e)
      by false e k r = r (rw or-false at k)

  pub of-max : (n i : ℕ) → i < n → p i ≡ true → f i ≤ℤ f (first_largest_of n p f)
  unfolding first_largest_of
  of-max zero i l e = absurd (omega arith)
  of-max (suc n) i l e = by (p n) refl (p j) refl (lt_z (f j) (f n)) (λ h. lt_z_yes h) (λ h. lt_z_no h) (dec_lt i n)
      (λ d. of-max n i d e)
    where
      j : ℕ
      j = first_largest_of n p f

      by : (a : Bool) → p n ≡ a → (b : Bool) → p j ≡ b → (c : Bool) → (T c → f j <ℤ f n) → (T (not c) → f n ≤ℤ f j) → Dec (i < n)
          → (i < n → f i ≤ℤ f j) → f i ≤ℤ f (cond (a && (not b || c)) n j)
      by false h b k c u w (yes d) r = r d
      by false h b k c u w (no d) r = let same : i ≡ n = omega arith in absurd (is_T (sym (sym e ∙ ap p same ∙ h)))
      by true h false k c u w (yes d) r = absurd (is_T (sym (sym (of-holds n i d e) ∙ k)))
      by true h false k c u w (no d) r = let same : i ≡ n = omega arith in rw same (≤-refl (f n))
      by true h true k true u w (yes d) r = ≤_trans (r d) (<-≤ (u tt))
      by true h true k true u w (no d) r = let same : i ≡ n = omega arith in rw same (≤-refl (f n))
      by true h true k false u w (yes d) r = r d
      by true h true k false u w (no d) r = let same : i ≡ n = omega arith in rw same (w tt)

-- only whether p holds, and f where it does, matter
pub of-cong : (n : ℕ) (p q : ℕ → Bool) (f g : ℕ → ℤ) → 0 < n → ((i : ℕ) → i < n → p i ≡ q i) → ((i : ℕ) → i < n → q i ≡ true → f i ≡ g i)
    → first_largest_of n p f ≡ first_largest_of n q g
unfolding first_largest_of
of-cong zero p q f g some h k = refl
of-cong (suc zero) p q f g some h k = of-first p f ∙ sym (of-first q g)
of-cong (suc (suc n)) p q f g some h k =
    let e = of-cong (suc n) p q f g (omega arith) (λ i l. h i (omega arith)) (λ i l. k i (omega arith)) in
    let l = of-in q g (suc n) (omega arith) in
    rw (e, h j (omega arith), h (suc n) (omega arith)) (by (q (suc n)) refl (q j) refl)
  where
    j : ℕ
    j = first_largest_of (suc n) q g

    by : (a : Bool) → q (suc n) ≡ a → (b : Bool) → q j ≡ b
        → cond (a && (not b || lt_z (f j) (f (suc n)))) (suc n) j ≡ cond (a && (not b || lt_z (g j) (g (suc n)))) (suc n) j
    by false u b w = refl
    by true u false w = refl
    by true u true w = rw (k j (let l = of-in q g (suc n) (omega arith) in omega arith) w, k (suc n) (omega arith) u)

-- ---- the first largest of all
pub largest-first : (f : ℕ → ℤ) → first_largest 1 f ≡ 0
largest-first f = of-first (λ i. true) f

pub largest-later : (n : ℕ) (f : ℕ → ℤ) → lt_z (f (first_largest n f)) (f n) ≡ true → first_largest (n + 1) f ≡ n
largest-later n f e = of-later (λ i. true) f n refl e

pub largest-same : (n : ℕ) (f : ℕ → ℤ) → lt_z (f (first_largest n f)) (f n) ≡ false → first_largest (n + 1) f ≡ first_largest n f
largest-same n f e = of-same (λ i. true) f n e

pub largest-in : (n : ℕ) (f : ℕ → ℤ) → 0 < n → first_largest n f < n
largest-in n f h = of-in (λ i. true) f n h

pub largest-max : (n : ℕ) (f : ℕ → ℤ) (i : ℕ) → i < n → f i ≤ℤ f (first_largest n f)
largest-max n f i l = of-max (λ i. true) f n i l refl

pub largest-cong : (n : ℕ) (f g : ℕ → ℤ) → 0 < n → ((i : ℕ) → i < n → f i ≡ g i) → first_largest n f ≡ first_largest n g
largest-cong n f g some h = of-cong n (λ i. true) (λ i. true) f g some (λ i l. refl) (λ i l e. h i l)

pub and-false : (a b : Bool) → b ≡ false → (a && b) ≡ false
and-false true b e = e
and-false false b e = refl

pub and-true-right : (a b : Bool) → b ≡ true → (a && b) ≡ a
and-true-right true b e = e
and-true-right false b e = refl
