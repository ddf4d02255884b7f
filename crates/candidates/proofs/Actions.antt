-- Laws of the search for the best candidate: what an action's vector is handed, how large it is, and the best of the actions so far. Assumes nothing.
--
-- In order: what the search is handed; an action's vector and its product; what its steps ask for; the best of the first actions, one action more, and all
-- of them.
use Rattle.integers.proofs.Kit.{◌≡◌, ◌∙◌, refl, sym, true, false, List, ℕ, ◌≤◌, ◌<◌, ◌+◌, arith, length, get_or, ℤ, pos, nat_abs, lt_z}
use Rattle.integers.specs.Whole.{Below}
use Rattle.integers.specs.Search.{first_largest}
use Rattle.integers.specs.Cells.{padded}
use Rattle.integers.proofs.Lists.{padded-at, padded-length}
use Rattle.integers.proofs.Searches.{largest-first, largest-later, largest-same}
use Rattle.integers.proofs.Sums.{total-part}
use Rattle.tables.specs.declared.Counts.{Counts}
use Rattle.tables.specs.Limits.{max_states, max_actions, max_observations, one, max_entry}
use Rattle.tables.specs.Storage.{weight_in, model_in}
use Rattle.masks.specs.Steps.{MaskedFit}
use Rattle.columns.specs.Steps.{Listed}
use Rattle.sums.specs.Steps.{moved_in, seen_in, ObservationsFit, RewardsFit}
use Rattle.sums.proofs.Regroup.{transitions-fit, observations-fit, rewards-fit}
use Rattle.engines.specs.Steps.{EngineFits}
use Rattle.plans.specs.Limits.{max_total, max_reached, range}
use Rattle.plans.specs.Level.{product}
use Rattle.plans.specs.Build.{entry_for, best_action}
use Rattle.plans.proofs.Agreement.{product-cong}
use Rattle.plans.proofs.Built.{successor-limit, entry-range}
use Rattle.backups.specs.Steps.{Light}
use Rattle.candidates.specs.declared.Candidate.{Candidate}
use Rattle.candidates.specs.Steps.{candidate_in, candidate_of, best_of, upon_in, Upon, top_built}
use Rattle.backups.proofs.Roofs.{seen-is}
use Rattle.candidates.proofs.Candidates.{candidate-is}

-- what the search is handed
pub record Asked (c : Counts) (T O : List ℕ) (R : List ℤ) (masks : List ℕ) (entries : List ℤ) (vectors : ℕ) (p : List ℕ) : Type 0 where
  pub upon : Upon c T O R masks entries vectors
  pub light : Light c.states p

-- an action's vector's product with p as it is worked out
abbrev pub product_with : Counts → List ℕ → Candidate → ℤ
product_with c p x = product c.states (weight_in p) (λ s. get_or x.entries (0 + s) (pos 0))

-- the model's: an action's vector, and its product with p
abbrev pub vector_of : Counts → List ℕ → List ℕ → List ℤ → List ℕ → List ℤ → ℕ → List ℕ → ℕ → ℕ → ℤ
vector_of c T O R masks entries vectors p a = entry_for (model_in c T O R) (upon_in c vectors masks entries) (weight_in p) a

unfoldable pub worth : Counts → List ℕ → List ℕ → List ℤ → List ℕ → List ℤ → ℕ → List ℕ → ℕ → ℤ
worth c T O R masks entries vectors p a = product c.states (weight_in p) (vector_of c T O R masks entries vectors p a)

module _ {c : Counts} {T O : List ℕ} {R : List ℤ} {masks : List ℕ} {entries : List ℤ} {vectors : ℕ} {p : List ℕ}
    (h : Asked c T O R masks entries vectors p) where
  pub weights-below : Below max_total c.states p
  weights-below = record { long = h.light.long; below = λ s b. omega (arith, h.light.light, total-part c.states (weight_in p) s b) }

  -- the successor weights are at most a million times the total of the weights
  reached : (a : ℕ) → a < c.actions → (o : ℕ) → o < c.observations → (s : ℕ) → s < c.states
      → seen_in c.states c.observations O (padded 0 max_states c.states (moved_in c.states T p a)) a o s ≤ max_reached
  reached a b o k s j =
      rw (seen-is c T O R p a o s j) (omega (arith, h.light.light, successor-limit (model_in c T O R) h.upon.valid (weight_in p) a o s b k j))

  entries-in : MaskedFit c.states vectors masks entries
  unfolding range
  entries-in = record {
    few = h.upon.shaped.few_vectors;
    masks_long = h.upon.masks_stored;
    stored = h.upon.entries_stored;
    entry = λ v b s k. omega (arith, h.upon.shaped.entry_fits v b s k);
  }

  -- what an action's vector is worked out from is within the limits
  pub vector-fits : (a : ℕ) → a < c.actions → {list : List ℕ} → Listed c.states T list a
      → ((c.states ≤ max_states) × ((c.observations ≤ max_observations) × ((a < max_actions) × (c.discount ≤ one))))
      × (((0 < c.states) × (0 < vectors))
      × (Below max_total c.states p
      × ((EngineFits c.states T list a
      × (ObservationsFit c.states c.observations O a × RewardsFit c.states R a))
      × (((o : ℕ) → o < c.observations → (s : ℕ) → s < c.states
      → seen_in c.states c.observations O (padded 0 max_states c.states (moved_in c.states T p a)) a o s ≤ max_reached)
      × MaskedFit c.states vectors masks entries))))
  vector-fits a b listed =
      let v = h.upon.valid in
      let d = h.upon.stored in
      let s = h.upon.shaped in (
        (v.few_states, (v.few_observations, (omega (arith, v.few_actions), v.discount_limit))),
        (
          (v.some_states, s.some_vectors),
          (
            weights-below,
            (
              (record { transitions = transitions-fit c T O R v d a b; listed = listed }, (observations-fit c T O R v d a b, rewards-fit c T O R v d a b)),
              (reached a b, entries-in),
            ),
          ),
        ),
      )

  -- an action's vector as it was found
  module _ (a : ℕ) {x : Candidate} (found : x ≡ candidate_in c T O R masks entries vectors p a) where
    pub vector-is : x ≡ candidate_of (model_in c T O R) (upon_in c vectors masks entries) p a
    vector-is = found ∙ candidate-is c T O R masks entries vectors p a h.upon.shaped.some_vectors

    vector-entry : (s : ℕ) → s < c.states → get_or x.entries (0 + s) (pos 0) ≡ vector_of c T O R masks entries vectors p a s
    unfolding candidate_of
    vector-entry s b =
        let e : 0 + s ≡ s = omega arith in
        rw (e, vector-is) (padded-at (pos 0) max_states c.states (vector_of c T O R masks entries vectors p a) s (pos 0) b)

    pub vector-long : length x.entries ≡ max_states
    unfolding candidate_of
    vector-long = rw (vector-is, padded-length (pos 0) max_states c.states (vector_of c T O R masks entries vectors p a) h.upon.valid.few_states)

    -- its product with p is of numbers within the limits
    pub vector-product : a < c.actions
        → ((c.states ≤ max_states) × (0 + c.states ≤ length x.entries))
        × (Below max_reached c.states p × ((s : ℕ) → s < c.states → 0 < weight_in p s → nat_abs (get_or x.entries (0 + s) (pos 0)) ≤ max_entry))
    unfolding range candidate_of
    vector-product k =
        let v = h.upon.valid in (
          (v.few_states, omega (arith, vector-long, v.few_states)),
          (
            record { long = h.light.long; below = λ s b. omega (arith, weights-below.below s b) },
            λ s b above. rw (vector-entry s b) (omega (arith, entry-range (model_in c T O R) _ top_built v h.upon.shaped (weight_in p) a k s b)),
          ),
        )

    pub vector-worth : {z : ℤ} → z ≡ product_with c p x → z ≡ worth c T O R masks entries vectors p a
    unfolding worth
    vector-worth e = e ∙ product-cong c.states _ _ _ _ (λ s b. refl) vector-entry

-- the best of the first actions, its vector, and what that is worth
pub record Best-of (c : Counts) (T O : List ℕ) (R : List ℤ) (masks : List ℕ) (entries : List ℤ) (vectors : ℕ) (p : List ℕ)
    (count action : ℕ) (best : Candidate) (most : ℤ) : Type 0 where
  pub asked : Asked c T O R masks entries vectors p
  pub first : action ≡ first_largest count (worth c T O R masks entries vectors p)
  pub vector : best ≡ candidate_of (model_in c T O R) (upon_in c vectors masks entries) p action
  pub value : most ≡ worth c T O R masks entries vectors p action

module _ {c : Counts} {T O : List ℕ} {R : List ℤ} {masks : List ℕ} {entries : List ℤ} {vectors : ℕ} {p : List ℕ} where
  pub best-first : (h : Asked c T O R masks entries vectors p) {x : Candidate} {z : ℤ} → x ≡ candidate_in c T O R masks entries vectors p 0
      → z ≡ product_with c p x → Best-of c T O R masks entries vectors p 1 0 x z
  best-first h e f = record {
    asked = h;
    first = sym (largest-first (worth c T O R masks entries vectors p));
    vector = vector-is h 0 e;
    value = vector-worth h 0 e f;
  }

  -- a turn of the search: the best so far, the vector of action a, and its product
  module _ {a action : ℕ} {best x : Candidate} {most z : ℤ} (so_far : Best-of c T O R masks entries vectors p a action best most)
      (found : x ≡ candidate_in c T O R masks entries vectors p a)
      (here : z ≡ product_with c p x) {action' : ℕ} {best' : Candidate} {most' : ℤ} where
    pub best-larger : lt_z most z ≡ true → action' ≡ a → best' ≡ x → most' ≡ z → Best-of c T O R masks entries vectors p (a + 1) action' best' most'
    best-larger t e f g =
        let w = vector-worth so_far.asked a found here in record {
          asked = so_far.asked;
          first = e ∙ sym (largest-later a (worth c T O R masks entries vectors p) (rw (← so_far.first, ← so_far.value, ← w) t));
          vector = rw (f, e) (vector-is so_far.asked a found);
          value = rw (g, e) w;
        }

    pub best-not-larger : lt_z most z ≡ false → action' ≡ action → best' ≡ best → most' ≡ most
        → Best-of c T O R masks entries vectors p (a + 1) action' best' most'
    best-not-larger t e f g =
        let w = vector-worth so_far.asked a found here in record {
          asked = so_far.asked;
          first = e ∙ so_far.first ∙ sym (largest-same a (worth c T O R masks entries vectors p) (rw (← so_far.first, ← so_far.value, ← w) t));
          vector = rw (f, e) so_far.vector;
          value = rw (g, e) so_far.value;
        }

  pub best-found : {a action : ℕ} {best : Candidate} {most : ℤ} → Best-of c T O R masks entries vectors p a action best most → a ≡ c.actions
      → record { action = record { 0 = action }; candidate = best } ≡ best_of (model_in c T O R) (upon_in c vectors masks entries) p
  unfolding best_of best_action worth
  best-found b e = rw (b.vector, b.first, e)
