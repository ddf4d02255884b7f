-- What is built over levels that agree agrees. Assumes nothing.
--
-- In order: choices, entries and the best action agree; so do corners and values; so does the level.
use Rattle.integers.proofs.Kit.{◌≡◌, ◌∙◌, refl, ap, ℕ, ◌<◌, ℤ}
use Rattle.integers.specs.Whole.{floor_div, ceil_div}
use Rattle.integers.specs.Search.{first_largest_of}
use Rattle.integers.proofs.Searches.{largest-cong, of-cong}
use Rattle.tables.specs.Limits.{K}
use Rattle.tables.specs.Model.{Model, successor, backed_up}
use Rattle.plans.specs.Level.{Level, covers_all, product, corner_weight, follows, Agree}
use Rattle.plans.specs.Build.{chosen, entry_for, best_action, least_for, least_value, seed, built}
use Rattle.plans.proofs.Agreement.{product-cong, covers-all-agree, backup-cong, backup_at-below}
use Rattle.plans.proofs.Built.{chosen-exists}

-- The builder reads the level below within its counts: products with vectors that exist, backups of those that it chooses, and backups at weights.
-- All of these agree, so the first largest is the same one. Qed.
module _ (M : Model) (L L' : Level) (g : Agree M L L') (some_vectors : 0 < L.vectors) (some_actions : 0 < M.actions) where
  module _ (p : ℕ → ℕ) where
    chosen-same : (a o : ℕ) → chosen M L' p a o ≡ chosen M L p a o
    unfolding chosen
    chosen-same a o =
        ap (λ (k : ℕ). first_largest_of k (covers_all M.states L') (λ v. product M.states (successor M p a o) (L'.entry v))) g.vectors_same
        ∙ of-cong L.vectors _ _ _ _ some_vectors (covers-all-agree M L L' g)
        (λ v l c. product-cong M.states (successor M p a o) (successor M p a o) (L'.entry v) (L.entry v) (λ s k. refl) (g.entry_same v l))

    entry_same : (a s : ℕ) → entry_for M L' p a s ≡ entry_for M L p a s
    unfolding entry_for backed_up follows
    entry_same a s =
        ap (λ (z : ℤ). floor_div z K) (backup-cong M a (follows L' (chosen M L' p a)) (follows L (chosen M L p a)) s
        (λ o lo s' l. ap (λ (v : ℕ). L'.entry v s') (chosen-same a o) ∙ g.entry_same (chosen M L p a o) (chosen-exists M L p a o some_vectors) s' l))

    action_same : best_action M L' p ≡ best_action M L p
    unfolding best_action
    action_same =
        largest-cong M.actions _ _ some_actions
        (λ a l. product-cong M.states p p (entry_for M L' p a) (entry_for M L p a) (λ s k. refl) (λ s k. entry_same a s))

    least-same : (a : ℕ) → least_for M L' p a ≡ least_for M L p a
    unfolding least_for
    least-same a = ap (λ (z : ℤ). ceil_div z K) (backup_at-below M L L' g p a)

    value_same : least_value M L' p ≡ least_value M L p
    unfolding least_value
    value_same =
        ap (least_for M L' p) (largest-cong M.actions (least_for M L' p) (least_for M L p) some_actions (λ a l. least-same a)) ∙ least-same _

  pub built-same : (points : ℕ) (weight : ℕ → ℕ → ℕ) → Agree M (built M L points weight) (built M L' points weight)
  unfolding built
  built-same points weight = record {
    vectors_same = refl;
    points_same = refl;
    action_same = λ v l. action_same (at v);
    choice_same = λ v l o b. ap (λ (a : ℕ). chosen M L' (at v) a o) (action_same (at v)) ∙ chosen-same (at v) _ o;
    covers_same = λ v l s b. refl;
    entry_same = λ v l s b. ap (λ (a : ℕ). entry_for M L' (at v) a s) (action_same (at v)) ∙ entry_same (at v) _ s;
    corner_same = λ s l. value_same (corner_weight s);
    weight_same = λ i l s b. refl;
    value_same = λ i l. value_same (weight i);
  }
    where
      at : ℕ → ℕ → ℕ
      at v = seed M.states weight v
