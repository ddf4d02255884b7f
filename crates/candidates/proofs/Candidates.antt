-- Laws of the candidates: over storage they are the model's, and what the steps are handed is within the limits. Assumes nothing.
--
-- In order: from storage to the model; the steps' turns.
use Rattle.integers.proofs.Kit.{◌≡◌, ◌∙◌, refl, ap, true, Bool, List, ℕ, ◌≤◌, ◌<◌, arith, get_or, ℤ, pos}
use Rattle.integers.specs.Whole.{floor_div}
use Rattle.integers.specs.Search.{first_largest_of}
use Rattle.integers.specs.Cells.{padded}
use Rattle.integers.proofs.Lists.{padded-at, padded-length, padded-cong}
use Rattle.integers.proofs.Searches.{of-in, of-cong}
use Rattle.tables.specs.declared.Counts.{Counts}
use Rattle.tables.specs.Limits.{max_states, max_observations, max_vectors, K}
use Rattle.tables.specs.Model.{backed_up}
use Rattle.tables.specs.Storage.{weight_in, model_in}
use Rattle.masks.specs.Masks.{mask_of, masked_in}
use Rattle.masks.specs.Steps.{includes, MaskedFit}
use Rattle.masks.proofs.Bits.{includes-every}
use Rattle.sums.specs.Steps.{moved_in, seen_in, foreseen_in, backup_in, ChosenFit}
use Rattle.tables.proofs.Fitting.{alone_at}
use Rattle.sums.proofs.Regroup.{backup-regrouped}
use Rattle.plans.specs.Level.{covers_all, product, follows}
use Rattle.plans.specs.Build.{chosen, entry_for}
use Rattle.plans.proofs.Agreement.{product-cong, backup-cong}
use Rattle.backups.proofs.Roofs.{successors-are}
use Rattle.candidates.specs.declared.Candidate.{Candidate}
use Rattle.candidates.specs.Steps.{whole_in, choice_for, candidate_in, candidate_of, upon_in}

-- ---- from storage to the model
pub made_of : {c c' : List ℕ} {e e' : List ℤ} → c ≡ c' → e ≡ e'
    → ◌≡◌ {A = Candidate} (record { chosen = c; entries = e }) (record { chosen = c'; entries = e' })
made_of f g = rw (f, g)

module _ (c : Counts) (T O : List ℕ) (R : List ℤ) (masks : List ℕ) (entries : List ℤ) (vectors : ℕ) (p : List ℕ) (a : ℕ) where
  covers-all : (v : ℕ) → whole_in c.states masks v ≡ covers_all c.states (upon_in c vectors masks entries) v
  unfolding covers_all
  covers-all v = includes-every c.states (get_or masks v 0) (λ s. true)

  choice-is : 0 < vectors → (o : ℕ)
      → choice_for c.states c.observations T O masks entries vectors p a o
      ≡ chosen (model_in c T O R) (upon_in c vectors masks entries) (weight_in p) a o
  unfolding choice_for chosen
  choice-is some o =
      of-cong vectors _ _ _ _ some (λ v h. covers-all v) (λ v h w. product-cong c.states _ _ _ _ (successors-are c T O R p a o) (λ s b. refl))

  -- an entry, over the choices and what they foresee
  entry-is : 0 < vectors → {choices : List ℕ} {foreseen : List ℤ}
      → choices
      ≡ padded 0 max_observations c.observations (choice_for c.states c.observations T O masks entries vectors p a)
      → foreseen ≡ padded (pos 0) max_states c.states (foreseen_in c.states c.observations O masks entries choices 0 a)
      → (s : ℕ) → floor_div (backup_in c.states c.discount T R foreseen a s) K
      ≡ entry_for (model_in c T O R) (upon_in c vectors masks entries) (weight_in p) a s
  unfolding entry_for backed_up follows
  entry-is some {choices} {foreseen} e f s =
      ap (λ (z : ℤ). floor_div z K)
      (backup-regrouped c T O R masks entries choices 0 foreseen a s (λ s' h. rw f (padded-at (pos 0) max_states c.states _ s' (pos 0) h))
      ∙ backup-cong (model_in c T O R) a _ _ s (λ o h s' b. ap (λ (v : ℕ). masked_in c.states masks entries v s')
      (alone_at c.observations choices o ∙ rw e (padded-at 0 max_observations c.observations _ o 0 h) ∙ choice-is some o)))

  pub candidate-is : 0 < vectors
      → candidate_in c T O R masks entries vectors p a ≡ candidate_of (model_in c T O R) (upon_in c vectors masks entries) p a
  unfolding candidate_in candidate_of
  candidate-is some =
      made_of (padded-cong 0 max_observations c.observations _ _ (λ o h. choice-is some o))
      (padded-cong (pos 0) max_states c.states _ _ (λ s h. entry-is some refl refl s))

-- ---- the steps' turns
-- the vector chosen for an observation, from what moved to each state
abbrev pub picked : ℕ → ℕ → List ℕ → List ℕ → List ℕ → List ℤ → ℕ → ℕ → ℕ → ℕ
picked n k observation moved masks entries count a o =
    first_largest_of count (whole_in n masks)
    (λ v. product n (weight_in (padded 0 max_states n (seen_in n k observation moved a o))) (masked_in n masks entries v))

-- the same, from the successor weights and the mask of all states that it is found with
pub picked-from : (n k : ℕ) (observation moved masks : List ℕ) (entries : List ℤ) (count a o : ℕ) {q : List ℕ} {all v : ℕ}
    → q ≡ padded 0 max_states n (seen_in n k observation moved a o) → all ≡ mask_of n (λ s. true)
    → v ≡ first_largest_of count (λ v. includes (get_or masks v 0) all) (λ v. product n (weight_in q) (masked_in n masks entries v))
    → v ≡ picked n k observation moved masks entries count a o
picked-from n k observation moved masks entries count a o e g f = f ∙ rw (e, g)

-- it is one of the vectors that there is room for
pub found_in : {v : ℕ} (count : ℕ) (p : ℕ → Bool) (f : ℕ → ℤ) → v ≡ first_largest_of count p f → 0 < count → count ≤ max_vectors → v < max_vectors
found_in count p f e some few = rw e (omega (arith, of-in p f count some))

-- the vectors chosen are within the limits
pub chosen-fit : (n k : ℕ) (observation u masks : List ℕ) (entries : List ℤ) (count a : ℕ) {chosen : List ℕ}
    → chosen ≡ padded 0 max_observations k (picked n k observation u masks entries count a) → k ≤ max_observations → 0 < count
    → MaskedFit n count masks entries → ChosenFit n k masks entries chosen 0
chosen-fit n k observation u masks entries count a {chosen} e few some fit = record {
  vectors = count;
  entries_fit = fit;
  row = omega arith;
  stored = rw (e, padded-length 0 max_observations k (picked n k observation u masks entries count a) few) (omega arith);
  vector = λ o l. rw (alone_at k chosen o, is o l) (of-in _ _ count some);
}
  where
    is : (o : ℕ) → o < k → get_or chosen o 0 ≡ picked n k observation u masks entries count a o
    is o l = rw e (padded-at 0 max_observations k (picked n k observation u masks entries count a) o 0 l)

-- the candidate, from what each step gave
pub candidate-made : (c : Counts) (a : ℕ) (T O p : List ℕ) (R : List ℤ) (masks : List ℕ) (entries : List ℤ) (count : ℕ) {u chosen : List ℕ}
    {f b e : List ℤ}
    → u ≡ padded 0 max_states c.states (moved_in c.states T p a)
    → chosen ≡ padded 0 max_observations c.observations (picked c.states c.observations O u masks entries count a)
    → f ≡ padded (pos 0) max_states c.states (foreseen_in c.states c.observations O masks entries chosen 0 a)
    → b ≡ padded (pos 0) max_states c.states (backup_in c.states c.discount T R f a)
    → e ≡ padded (pos 0) max_states c.states (λ s. floor_div (get_or b s (pos 0)) K)
    → record { chosen = chosen; entries = e } ≡ candidate_in c T O R masks entries count p a
unfolding candidate_in choice_for
candidate-made c a T O p R masks entries count {f = f} moved h i g j =
    made_of (h ∙ rw moved)
    (j
    ∙ padded-cong (pos 0) max_states c.states _ (λ s. floor_div (backup_in c.states c.discount T R f a s) K)
    (λ s l. ap (λ (z : ℤ). floor_div z K) (rw g (padded-at (pos 0) max_states c.states _ s (pos 0) l)))
    ∙ rw (i, h, moved))
