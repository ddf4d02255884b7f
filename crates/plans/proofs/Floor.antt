-- The floor: each vector of an accepted level has a plan that fits the model, opens with the vector's action, and earns at least the vector's entries on
-- the states that it covers.
-- Assumes nothing.
--
-- In order: factors; a backup is earned by the plan made of plans that earn; a plan for each observation; level 0 and each next one; at a mixture.
use Rattle.integers.proofs.Kit.{◌≡◌, refl, true, Bool, ℕ, ◌<◌, ◌*◌, suc, zero, ◌^◌, arith, dec_lt, ℤ, ◌≤ℤ◌}
use native.Mathlib.Nat.{pow-suc}
use Rattle.integers.specs.Whole.{◌·◌}
use Rattle.integers.proofs.Order.{≤-refl, ≤-of, ≤_trans, add-mono, ·-add, ·-·, ·-swap, zero-·, ·-zero, ·-mono}
use Rattle.integers.proofs.Sums.{·-sum-≤}
use Rattle.tables.specs.Limits.{K}
use Rattle.tables.specs.Model.{Model, backup}
use Rattle.plans.specs.Plan.{Plan, stop, step, Fits, Opens, earns, earns_at}
use Rattle.plans.specs.Level.{Level, level0, product, follows, VectorHolds}
use Rattle.plans.proofs.Certified.{Earned}

-- one factor more
pub pow-· : (t : ℕ) (x : ℤ) → (K ^ t) · (K · x) ≡ (K ^ suc t) · x
pow-· t x = rw (pow-suc, ·-·)

-- multiples that are not 0 matter
·-mono-above : (n : ℕ) {a b : ℤ} → (0 < n → a ≤ℤ b) → (n · a) ≤ℤ (n · b)
·-mono-above zero {a} {b} h = rw (zero-· a, zero-· b) (≤-refl _)
·-mono-above (suc n) h = ·-mono (suc n) (h (omega arith))

-- The backup of entries is earned by the plan made of plans that earn them, wherever they are reached with a chance above 0.
pub backup-floor : (M : Model) (t a : ℕ) (next : ℕ → ℕ → ℤ) (plans : ℕ → Plan t) (s : ℕ)
    → ((o : ℕ) → o < M.observations → (s' : ℕ) → s' < M.states → 0 < M.transition s a s' * M.observation a s' o
    → (K ^ t) · next o s' ≤ℤ earns M (plans o) s')
    → (K ^ t) · backup M a next s ≤ℤ earns M (step a plans) s
unfolding backup earns
backup-floor M t a next plans s h =
    rw ·-add (add-mono (≤-of (pow-· t (M.reward s a)))
    (rw ·-swap (·-mono M.discount (·-sum-≤ _ _ _ _ (λ s' l. ·-sum-≤ _ _ _ _ (λ o l'. rw ·-swap (·-mono-above _ (h o l' s' l))))))))

-- ---- a plan for each observation
-- some plan, for numbers that are no observations
any_plan : (t : ℕ) → Plan t
any_plan zero = stop
any_plan (suc t) = step 0 (λ o. any_plan t)

module _ {t : ℕ} (k : ℕ) (given : (o : ℕ) → o < k → Plan t) where
  plan_for : (o : ℕ) → Dec (o < k) → Plan t
  plan_for o (yes l) = given o l
  plan_for o (no n) = any_plan t

  plan-for : (P : ℕ → Plan t → Type 0) → ((o : ℕ) (l : o < k) → P o (given o l)) → (o : ℕ) → o < k → P o (plan_for o (dec_lt o k))
  unfolding plan_for
  plan-for P h o l = by (dec_lt o k)
    where
      by : (d : Dec (o < k)) → P o (plan_for o d)
      by (yes b) = h o b
      by (no n) = absurd (n l)

-- ---- vectors
-- at level 0 the plan of no steps earns the zero vector
pub earned-0 : (M : Model) (v : ℕ) → Earned M 0 (level0.action v) (level0.covers v) (level0.entry v)
unfolding level0 Fits Opens earns
earned-0 M v = record { plan = stop; fits = tt; opens = tt; earned = λ s l c. ≤-of (·-zero _) }

-- A vector that meets its inequality over a level whose vectors are earned is earned with one step more.
-- Its plan takes the vector's action and goes on, after each observation, with the plan of the vector chosen. At a state that it covers K times the entry is
-- at most the backup of the entries chosen; those that are reached with a chance above 0 are covered by the vectors chosen, so times K^t they are earned by
-- the plans chosen, and the backup, a sum of them with factors of 0 or more and K times the reward, is earned by the plan made of them. Qed.
pub earned-next : (M : Model) (t : ℕ) (L W : Level) → ((v : ℕ) → v < L.vectors → Earned M t (L.action v) (L.covers v) (L.entry v))
    → (v : ℕ) → VectorHolds M L W v → Earned M (suc t) (W.action v) (W.covers v) (W.entry v)
unfolding Fits Opens follows
earned-next M t L W before v holds = record {
  plan = step (W.action v) plans;
  fits = (holds.action_exists, plan-for k given (λ o π. Fits M π) (λ o l. (chosen o l).fits));
  opens = refl;
  earned = λ s b c. rw (← pow-·) (≤_trans (·-mono (K ^ t) (holds.entry_holds s b c)) (backup-floor M t (W.action v) (follows L (W.choice v)) plans s
      (λ o l s' b' above. plan-for k given
      (λ o π. (s' : ℕ) → s' < M.states → L.covers (W.choice v o) s' ≡ true → (K ^ t) · L.entry (W.choice v o) s' ≤ℤ earns M π s')
      (λ o l. (chosen o l).earned) o l s' b' (holds.covers_reached s b c o l s' b' above))));
}
  where
    k : ℕ
    k = M.observations

    chosen : (o : ℕ) → o < k → Earned M t (L.action (W.choice v o)) (L.covers (W.choice v o)) (L.entry (W.choice v o))
    chosen o l = before (W.choice v o) (holds.choice_exists o l)

    given : (o : ℕ) → o < k → Plan t
    given o l = (chosen o l).plan

    plans : ℕ → Plan t
    plans o = plan_for k given o (dec_lt o k)

-- At a mixture whose weights all lie on covered states the plan of a vector earns at least the vector's product, both times K^t.
-- The product is the sum over the states of weight times entry; each term is at most weight times what is earned from that state, since its weight is 0 or
-- the state is covered. Qed.
pub floor : {M : Model} {t a : ℕ} {covers : ℕ → Bool} {entry : ℕ → ℤ} (e : Earned M t a covers entry) (b : ℕ → ℕ)
    → ((s : ℕ) → s < M.states → 0 < b s → covers s ≡ true) → (K ^ t) · product M.states b entry ≤ℤ earns_at M e.plan b
unfolding product earns_at
floor e b covered = ·-sum-≤ _ _ _ _ (λ s h. rw ·-swap (·-mono-above (b s) (λ above. e.earned s h (covered s h above))))
