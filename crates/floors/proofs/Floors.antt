-- The test of an offered level's vectors as the loop over them makes it: every number is within its limit, and the test is the model's. Assumes nothing.
--
-- In order: verdicts; one vector; one entry, at a state that is covered.
use Rattle.integers.proofs.Kit.{◌≡◌, ◌∙◌, refl, sym, true, false, Bool, List, [], ℕ, ◌≤◌, ◌<◌, ◌||◌, arith, get_or, length, ℤ, pos, nat_abs, le_z}
use mathlib.Core.Bool.{not}
use Rattle.integers.specs.Whole.{◌·◌, Within}
use Rattle.integers.specs.Cells.{padded}
use Rattle.integers.proofs.Lists.{padded-at, filled_within}
use Rattle.tables.specs.declared.Counts.{Counts}
use Rattle.refusals.specs.Verdicts.{Verdict, Fine, Refused, unless, first_of}
use Rattle.tables.specs.Limits.{max_states, max_actions, max_vectors, max_entry, K}
use Rattle.tables.specs.Model.{backup}
use Rattle.tables.specs.Storage.{entry_in, model_in}
use Rattle.sums.specs.Steps.{chosen_in, foreseen_in, backup_in, TransitionsFit, ObservationsFit, RewardsFit, foreseen_limit}
use Rattle.masks.specs.Masks.{covered_in, masked_in}
use Rattle.sums.proofs.Regroup.{backup-regrouped, foreseen-limit, transitions-fit, observations-fit, rewards-fit}
use Rattle.plans.specs.Level.{follows}
use Rattle.levels.specs.Storage.{floor_in}
use Rattle.levels.specs.Judged.{floors_verdict}
use Rattle.levels.proofs.Laws.{passed, failed}
use Rattle.floors.specs.Steps.{Judging}

-- ---- verdicts

module _ (c : Counts) (T O : List ℕ) (R : List ℤ) (masks : List ℕ) (entries : List ℤ) (actions choices covering : List ℕ) (offered : List ℤ) where
  -- the backup that bounds the entry of vector v at s
  unfoldable pub most_of : ℕ → ℕ → ℤ
  most_of v s = backup (model_in c T O R) (get_or actions v 0) (chosen_in c.states c.observations masks entries choices v) s

  -- the verdict on that entry
  unfoldable pub entry_verdict : ℕ → ℕ → Verdict
  entry_verdict v s = unless (not (covered_in covering v s) || le_z (K · masked_in c.states covering offered v s) (most_of v s)) 13 v

  -- the vectors' verdict is made of these
  pub floors-are : (vectors : ℕ)
      → floors_verdict (model_in c T O R) (floor_in c.states c.observations 0 [] [] masks entries)
      (floor_in c.states c.observations vectors actions choices covering offered)
      ≡ first_of vectors (λ v. first_of c.states (entry_verdict v))
  unfolding floors_verdict follows entry_verdict most_of
  floors-are vectors = refl

  -- an entry at a state that is not covered is not tested
  pub entry-unread : (v s : ℕ) → covered_in covering v s ≡ false → entry_verdict v s ≡ Fine
  unfolding entry_verdict
  entry-unread v s e = rw e refl

-- ---- one vector

module _ {c : Counts} {T O : List ℕ} {R : List ℤ} {masks : List ℕ} {entries : List ℤ} {vectors : ℕ} {actions choices covering : List ℕ} {offered : List ℤ}
    (j : Judging c T O R masks entries vectors actions choices covering offered) where
  -- a vector's number is within the limit, and its mask is stored
  pub vector-below : {v : ℕ} → v < vectors → v < max_vectors
  vector-below l = omega (arith, j.offers.few)

  pub mask-stored : {v : ℕ} → v < vectors → v < length covering
  mask-stored l = omega (arith, j.offers.masks_long)

  -- vector v, which exists, with its action a
  module _ {v a : ℕ} (exists : v < vectors) (acts : a ≡ get_or actions v 0) where
    pub acts-in : a < c.actions
    acts-in = rw acts (j.acts v exists)

    pub action-below : a < max_actions
    action-below = omega (arith, acts-in, j.valid.few_actions)

    pub observations-here : ObservationsFit c.states c.observations O a
    observations-here = observations-fit c T O R j.valid j.stored a acts-in

    -- with what is foreseen: every number is within its limit, and the backups are those that bound the entries
    pub record Ready (f : List ℤ) : Type 0 where
      pub acts-below : a < max_actions
      pub transitions : TransitionsFit c.states T a
      pub rewards : RewardsFit c.states R a
      pub within : Within foreseen_limit c.states f
      pub most : (s : ℕ) → backup_in c.states c.discount T R f a s ≡ most_of c T O R masks entries actions choices covering offered v s

    pub ready : {f : List ℤ} → f ≡ padded (pos 0) max_states c.states (foreseen_in c.states c.observations O masks entries choices v a) → Ready f
    unfolding most_of
    ready {f} ahead = record {
      acts-below = action-below;
      transitions = transitions-fit c T O R j.valid j.stored a acts-in;
      rewards = rewards-fit c T O R j.valid j.stored a acts-in;
      within = filled_within max_states _ ahead j.valid.few_states
          (λ s h. foreseen-limit observations-here (j.chosen v exists) j.valid.few_observations h);
      most = λ s.
          backup-regrouped c T O R masks entries choices v f a s (λ s' h. rw ahead (padded-at (pos 0) max_states _ _ s' (pos 0) h)) ∙ rw acts;
    }

    -- ---- one entry, at a state that is covered

    module _ {f : List ℤ} (r : Ready f) (s : ℕ) (here : covered_in covering v s ≡ true) {e : ℤ} (is : e ≡ entry_in c.states offered v s) where
      pub entry-limit : s < c.states → nat_abs e ≤ max_entry
      entry-limit h = rw is (rw here at (j.offers.entry v exists s h))

      module _ {b : Bool} (said : b ≡ le_z (K · e) (backup_in c.states c.discount T R f a s)) where
        pub entry-passes : b ≡ true → entry_verdict c T O R masks entries actions choices covering offered v s ≡ Fine
        unfolding entry_verdict
        entry-passes h = rw here (passed 13 v (rw (is, r.most s) at (sym said ∙ h)))

        pub entry-fails : b ≡ false → entry_verdict c T O R masks entries actions choices covering offered v s ≡ Refused 13 v
        unfolding entry_verdict
        entry-fails h = rw here (failed 13 v (rw (is, r.most s) at (sym said ∙ h)))
