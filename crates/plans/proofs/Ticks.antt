-- How much rounding costs: an entry that is its backup over K rounded down lies less than a tick further below what its plan earns than the entries that it
-- was backed up from. Assumes nothing.
--
-- In order: strict order; backups; one level more.
use Rattle.integers.proofs.Kit.{◌≡◌, ◌∙◌, refl, ap, sym, true, false, Bool, List, ◌∷◌, ℕ, ◌<◌, ◌*◌, suc, ◌^◌, arith, length, ℤ, pos, ◌+ℤ◌, ◌≤ℤ◌, le_z, ◌<ℤ◌}
use native.Mathlib.Nat as NatL
use Rattle.integers.specs.Whole.{◌·◌, sum_to, total_to, floor_div}
use Rattle.integers.proofs.Parts.{add_parts, times-parts, eq-by, le_parts, le-by, lt-parts, lt_by, le-true, le_z-false}
use Rattle.integers.proofs.Order.{≤-refl, ≤-of, ≤_trans, add-mono, add_assoc, ·-add, ·-·, ·-swap, ·-pos, ·-mono}
use Rattle.integers.proofs.Sums.{sum-add, sum-cong, total-·, ≤-·-sum}
use Rattle.integers.proofs.Rounding.{floor-≤, floor-most}
use Rattle.tables.specs.Limits.{one, K}
use Rattle.tables.specs.Model.{Model, Valid, backup, backed_up}
use Rattle.plans.specs.Plan.{Plan, step, earns}
use Rattle.plans.specs.Level.{Level, follows}
use Rattle.plans.specs.Named.{named}
use Rattle.plans.proofs.Floor.{pow-·, backup-floor}
use Rattle.plans.proofs.Built.{K-positive, chances}

-- ---- strict order
pub pow-positive : (t : ℕ) → 0 < K ^ t
pow-positive t = omega (arith, NatL.one-le-pow t K K-positive)

scaled-< : (n : ℕ) {a b : ℤ} → 0 < n → a <ℤ b → n · a <ℤ n · b
scaled-< n {a} {b} p h =
    lt_by _ _ (omega (arith, times-parts n a, times-parts n b, NatL.mul-lt-mul_of_pos_left (lt-parts h) p))

add-< : {a b : ℤ} (c : ℤ) → a <ℤ b → (a +ℤ c) <ℤ (b +ℤ c)
add-< {a} {b} c h = lt_by _ _ (omega (arith, lt-parts h, add_parts a c, add_parts b c))

one_more : (e : ℤ) (t : ℕ) → e +ℤ pos (suc t) ≡ (e +ℤ pos 1) +ℤ pos t
one_more e t = eq-by _ _ (omega (arith, add_parts e (pos (suc t)), add_parts (e +ℤ pos 1) (pos t), add_parts e (pos 1)))

add_right : (x : ℤ) {a b : ℤ} → a ≤ℤ b → (x +ℤ a) ≤ℤ (x +ℤ b)
add_right x h = add-mono (≤-refl x) h

-- a number is less than k times one more than its quotient rounded down: else that one more would do
floor-< : (k : ℕ) → 0 < k → (z : ℤ) → z <ℤ k · (floor_div z k +ℤ pos 1)
floor-< k p z = by (le_z (k · (floor_div z k +ℤ pos 1)) z) refl
  where
    by : (b : Bool) → le_z (k · (floor_div z k +ℤ pos 1)) z ≡ b → z <ℤ k · (floor_div z k +ℤ pos 1)
    by false e = le_z-false _ _ e
    by true e = absurd (omega (arith, le_parts (floor-most k p z _ (le-true _ _ e)), add_parts (floor_div z k) (pos 1)))

-- ---- backups
-- what plans earn is at most the backup of entries that they earn no more than
backup-roof : (M : Model) (t a : ℕ) (next : ℕ → ℕ → ℤ) (plans : ℕ → Plan t)
    → ((o : ℕ) → o < M.observations → (s : ℕ) → s < M.states → earns M (plans o) s ≤ℤ (K ^ t) · next o s)
    → (s : ℕ) → earns M (step a plans) s ≤ℤ (K ^ t) · backup M a next s
unfolding backup earns
backup-roof M t a next plans h s =
    rw ·-add (add-mono (≤-of (sym (pow-· t (M.reward s a))))
    (rw (·-swap (K ^ t) M.discount) (·-mono M.discount (≤-·-sum _ _ _ _ (λ s' l. ≤-·-sum _ _ _ _ (λ o l'. rw ·-swap (·-mono _ (h o l' s' l))))))))

-- a sum of products, with c more in each
sum_more : (n k : ℕ) (w : ℕ → ℕ → ℕ) (x : ℕ → ℕ → ℤ) (c : ℤ)
    → sum_to n (λ i. sum_to k (λ j. w i j · (x j i +ℤ c)))
    ≡ sum_to n (λ i. sum_to k (λ j. w i j · x j i)) +ℤ total_to n (λ i. total_to k (λ j. w i j)) · c
sum_more n k w x c =
    sum-cong n _ _ row ∙ sum-add n (λ i. sum_to k (λ j. w i j · x j i)) (λ i. total_to k (λ j. w i j) · c)
    ∙ ap (λ (z : ℤ). sum_to n (λ i. sum_to k (λ j. w i j · x j i)) +ℤ z) (sym (total-· n (λ i. total_to k (λ j. w i j)) c))
  where
    row : (i : ℕ) → i < n → sum_to k (λ j. w i j · (x j i +ℤ c)) ≡ sum_to k (λ j. w i j · x j i) +ℤ total_to k (λ j. w i j) · c
    row i l =
        sum-cong k _ _ (λ j l'. ·-add (w i j) (x j i) c) ∙ sum-add k (λ j. w i j · x j i) (λ j. w i j · c)
        ∙ ap (λ (z : ℤ). sum_to k (λ j. w i j · x j i) +ℤ z) (sym (total-· k (λ j. w i j) c))

-- c more in each entry is at most c more in the backup over K: the chances total one × one, and the discount is at most one
backup-more : (M : Model) → Valid M → (a : ℕ) → a < M.actions → (next : ℕ → ℕ → ℤ) (c s : ℕ) → s < M.states
    → backup M a (λ o s'. next o s' +ℤ pos c) s ≤ℤ (backup M a next s +ℤ K · pos c)
unfolding backup K
backup-more M T a la next c s ls =
    rw (sum_more M.states M.observations (λ s' o. M.transition s a s' * M.observation a s' o) next (pos c), chances M T a la s ls, ·-add, ← add_assoc)
    (add_right (backup M a next s) later)
  where
    later : M.discount · ((one * one) · pos c) ≤ℤ K · pos c
    later = rw (← ·-·, ·-pos (M.discount * (one * one)) c, ·-pos K c) (·-mono c (le-by _ _ (omega (arith, T.discount_limit))))

-- ---- one level more
-- a vector of level W that is its own backup over level L, rounded down; L is the last of the levels below
pub record BackedUp (M : Model) (L W : Level) (v : ℕ) : Type 0 where
  pub action_exists : W.action v < M.actions
  pub choice_exists : (o : ℕ) → o < M.observations → W.choice v o < L.vectors
  pub entry-is : (s : ℕ) → s < M.states → W.entry v s ≡ backed_up M (W.action v) (follows L (W.choice v)) s

module _ (M : Model) (T : Valid M) (below : List Level) (L : Level)
    (low : (v : ℕ) → v < L.vectors → (s : ℕ) → s < M.states → (K ^ length below) · L.entry v s ≤ℤ earns M (named below v) s)
    (high : (v : ℕ) → v < L.vectors → (s : ℕ) → s < M.states → earns M (named below v) s ≤ℤ (K ^ length below) · (L.entry v s +ℤ pos (length below)))
    (W : Level) (v : ℕ) (b : BackedUp M L W v) (s : ℕ) (ls : s < M.states) where
  -- K times the entry is at most the backup of those chosen, and they are at most what their plans earn. Qed.
  pub low-next : (K ^ suc (length below)) · W.entry v s ≤ℤ earns M (named (W ∷ below) v) s
  unfolding named backed_up follows
  low-next =
      rw (b.entry-is s ls, ← pow-·) (≤_trans (·-mono (K ^ length below) (floor-≤ K K-positive _))
      (backup-floor M (length below) (W.action v) (follows L (W.choice v)) (λ o. named below (W.choice v o))
      s (λ o l s' l' above. low (W.choice v o) (b.choice_exists o l) s' l')))

  -- Let B be the backup and e the entry, so that B < K × (e + 1). What follows earns at most K^t × (entries + t), so the plan earns at most
  -- K^t × (B + K × t), which is less than K^t × (K × (e + 1) + K × t) = K^(t+1) × (e + t + 1). Qed.
  pub high-next : earns M (named (W ∷ below) v) s <ℤ (K ^ suc (length below)) · (W.entry v s +ℤ pos (suc (length below)))
  unfolding named backed_up follows
  high-next = rw (b.entry-is s ls, ← pow-·) (lt_by _ _ (omega (
    arith,
    le_parts (backup-roof M t (W.action v) (λ o s'. follows L (W.choice v) o s' +ℤ pos t) (λ o. named below (W.choice v o))
        (λ o l s' l'. high (W.choice v o) (b.choice_exists o l) s' l') s),
    le_parts (·-mono (K ^ t) (backup-more M T (W.action v) b.action_exists (follows L (W.choice v)) t s ls)),
    lt-parts (scaled-< (K ^ t) (pow-positive t) rounded),
  )))
    where
      t : ℕ
      t = length below

      B : ℤ
      B = backup M (W.action v) (follows L (W.choice v)) s

      rounded : (B +ℤ K · pos t) <ℤ K · (floor_div B K +ℤ pos (suc t))
      rounded = rw (one_more (floor_div B K) t, ·-add) (add-< (K · pos t) (floor-< K K-positive B))
