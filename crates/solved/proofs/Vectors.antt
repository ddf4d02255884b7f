-- Laws of the steps that work out the entries of a vector. Assumes nothing.
--
--   chosen-fit, foreseen-within              what its entries are worked out from is within the limits
--   backed-is, entry-said                    the entries are the level's
--   solving-chooses                          what 21 is handed is known once 10 is passed
--   row_fine, row-refused                    11 of one vector
--   row_made                                 its rows are those that the builder's steps fill
use Rattle.integers.proofs.Kit.{◌≡◌, ◌∙◌, refl, ap, sym, true, false, Bool, ◌&&◌, List, ℕ, ◌<◌, suc, zero, arith, leb, length, get_or, ℤ, pos, nat_abs}
use Rattle.integers.specs.Whole.{lesser, floor_div, Within}
use Rattle.integers.specs.Search.{every}
use Rattle.integers.specs.Cells.{padded}
use Rattle.integers.proofs.Lists.{padded-at, padded-length, filled_within}
use Rattle.tables.specs.declared.Counts.{Counts}
use Rattle.refusals.specs.Verdicts.{Verdict, Fine, Refused, is_fine, ◌before◌, unless, first_of}
use Rattle.tables.specs.Limits.{max_states, max_observations, K}
use Rattle.tables.specs.Model.{Model, backed_up}
use Rattle.tables.specs.Storage.{row_place, model_in}
use Rattle.tables.proofs.Fitting.{row-alone, alone_at}
use Rattle.refusals.proofs.Refusals.{never, first_cong}
use Rattle.masks.specs.Masks.{masked_in}
use Rattle.sums.specs.Steps.{foreseen_in, backup_in, foreseen_limit, ChosenFit}
use Rattle.sums.proofs.Regroup.{backup-regrouped, foreseen-limit, transitions-fit, observations-fit}
use Rattle.plans.specs.Limits.{range}
use Rattle.plans.specs.Level.{Level, follows}
use Rattle.plans.proofs.Agreement.{backup-cong}
use Rattle.levels.specs.Judged.{rows_within}
use Rattle.candidates.specs.Steps.{upon_in, Upon}
use Rattle.candidates.specs.declared.Best.{Best}
use Rattle.builder.proofs.Levels.{Made}
use Rattle.stated.specs.Steps.{Choosing}
use Rattle.solved.specs.declared.Row.{Row}
use Rattle.solved.specs.Solved.{solved}
use Rattle.solved.specs.Steps.{vectors_over, Solving, Gives}

-- ---- the entries

module _ {c : Counts} {T O : List ℕ} {R : List ℤ} {masks : List ℕ} {entries : List ℤ} {standing : ℕ} (upon : Upon c T O R masks entries standing)
    (chosen : List ℕ) (long : length chosen ≡ max_observations) (h : (o : ℕ) → o < c.observations → get_or chosen o 0 < standing) where
  -- the vectors chosen are within the limits
  pub chosen-fit : ChosenFit c.states c.observations masks entries chosen 0
  unfolding range
  chosen-fit = record {
    vectors = standing;
    entries_fit = record {
      few = upon.shaped.few_vectors;
      masks_long = upon.masks_stored;
      stored = upon.entries_stored;
      entry = λ v b s k. omega (arith, upon.shaped.entry_fits v b s k);
    };
    row = omega arith;
    stored = omega (arith, long, upon.valid.few_observations);
    vector = λ o l. rw (alone_at c.observations chosen o) (h o l);
  }

  -- and so is what they foresee
  pub foreseen-within : (a : ℕ) → a < c.actions → {f : List ℤ}
      → f ≡ padded (pos 0) max_states c.states (foreseen_in c.states c.observations O masks entries chosen 0 a) → Within foreseen_limit c.states f
  foreseen-within a l e =
      filled_within max_states (foreseen_in c.states c.observations O masks entries chosen 0 a) e upon.valid.few_states
      (λ s b. foreseen-limit (observations-fit c T O R upon.valid upon.stored a l) chosen-fit upon.valid.few_observations b)

-- the backup that is worked out is the model's
pub backed-is : (c : Counts) (T O : List ℕ) (R : List ℤ) (masks : List ℕ) (entries : List ℤ) (standing : ℕ) (chosen : List ℕ) (a : ℕ) {f e : List ℤ}
    → f ≡ padded (pos 0) max_states c.states (foreseen_in c.states c.observations O masks entries chosen 0 a)
    → e ≡ padded (pos 0) max_states c.states (λ s. floor_div (backup_in c.states c.discount T R f a s) K)
    → (s : ℕ) → s < c.states
    → get_or e s (pos 0) ≡ backed_up (model_in c T O R) a (follows (upon_in c standing masks entries) (λ o. get_or chosen o 0)) s
unfolding backed_up follows
backed-is c T O R masks entries standing chosen a {f} {e} g h s l =
    rw h (padded-at (pos 0) max_states c.states (λ s. floor_div (backup_in c.states c.discount T R f a s) K) s (pos 0) l)
    ∙ ap (λ (z : ℤ). floor_div z K)
    (backup-regrouped c T O R masks entries chosen 0 f a s (λ s' b. rw g (padded-at (pos 0) max_states c.states _ s' (pos 0) b))
    ∙ backup-cong (model_in c T O R) a _ _ s (λ o b s' k. ap (λ (v : ℕ). masked_in c.states masks entries v s') (alone_at c.observations chosen o)))

-- an entry reads the ticks, the action and the choices
pub entry-said : (M : Model) (L : Level) {z z' : ℤ} {a a' : ℕ} (f g : ℕ → ℕ) (s : ℕ) → z ≡ z' → a ≡ a'
    → ((o : ℕ) → o < M.observations → f o ≡ g o)
    → lesser z (backed_up M a (follows L f) s) ≡ lesser z' (backed_up M a' (follows L g) s)
unfolding backed_up follows
entry-said M L {z} {z'} {a} {a'} f g s e h k =
    ap (λ (x : ℤ). lesser x (backed_up M a (follows L f) s)) e ∙ ap (λ (b : ℕ). lesser z' (backed_up M b (follows L f) s)) h
    ∙ ap (λ (x : ℤ). lesser z' (floor_div x K)) (backup-cong M a' _ _ s (λ o b s' l. ap (λ (v : ℕ). L.entry v s') (k o b)))

-- ---- 21 and 11

-- what 21 is handed is known where 10 is passed
pub solving-chooses : {c : Counts} {T O : List ℕ} {R : List ℤ} {masks : List ℕ} {entries : List ℤ} {standing t : ℕ} {alphaFile graphFile : List ℕ}
    {count : ℕ} → Solving c T O R masks entries standing t alphaFile graphFile count → Choosing c T O masks t alphaFile graphFile count
solving-chooses {c} {T} {O} {R} h =
    let valid = h.upon.valid in
    let stored = h.upon.stored in record {
      some_states = valid.some_states;
      files = h.files;
      acts = λ v l. record {
        few_states = valid.few_states;
        few_observations = valid.few_observations;
        few_actions = omega (arith, h.acts v l, valid.few_actions);
        transitions = (transitions-fit c T O R valid stored _ (h.acts v l)).stored;
        observed = (observations-fit c T O R valid stored _ (h.acts v l)).stored;
      };
      chooses = λ v l o b. omega (arith, h.chooses v l o b, h.upon.masks_stored);
    }

-- one refusal for all of a row
both_hold : (a b : Bool) (k v : ℕ) → (unless a k v before unless b k v) ≡ unless (a && b) k v
both_hold true b k v = refl
both_hold false b k v = refl

first-every : (n : ℕ) (b : ℕ → Bool) (k v : ℕ) → first_of n (λ s. unless (b s) k v) ≡ unless (every n b) k v
unfolding first_of every
first-every zero b k v = refl
first-every (suc n) b k v = ap (λ (w : Verdict). w before unless (b n) k v) (first-every n b k v) ∙ both_hold (every n b) (b n) k v

module _ (n limit : ℕ) (f : ℕ → ℤ) (v : ℕ) {row : List ℤ} (e : row ≡ padded (pos 0) max_states n f) where
  abbrev tested : Verdict
  tested = rows_within 11 1 n limit (λ i x. get_or row (row_place n i x) (pos 0))

  abbrev within : ℕ → Bool
  within s = leb (nat_abs (f s)) limit

  row-every : tested ≡ unless (every n within) 11 0
  unfolding rows_within first_of
  row-every =
      first_cong n _ _ (λ s l. ap (λ (z : ℤ). unless (leb (nat_abs z) limit) 11 0)
      (ap (λ (i : ℕ). get_or row i (pos 0)) (row-alone n s) ∙ ap (λ (xs : List ℤ). get_or xs s (pos 0)) e ∙ padded-at (pos 0) max_states n f s (pos 0) l))
      ∙ first-every n within 11 0

  pub row_fine : tested ≡ Fine → first_of n (λ s. unless (leb (nat_abs (f s)) limit) 11 v) ≡ Fine
  row_fine g = first-every n within 11 v ∙ by (every n within) (sym row-every ∙ g)
    where
      by : (b : Bool) → unless b 11 0 ≡ Fine → unless b 11 v ≡ Fine
      by true h = refl
      by false h = never h

  pub row-refused : is_fine tested ≡ false → first_of n (λ s. unless (leb (nat_abs (f s)) limit) 11 v) ≡ Refused 11 v
  row-refused g = first-every n within 11 v ∙ by (every n within) (rw row-every at g)
    where
      by : (b : Bool) → is_fine (unless b 11 0) ≡ false → unless b 11 v ≡ Refused 11 v
      by true h = cc
      by false h = refl

-- ---- the vector as the builder's rows are filled with it

abbrev pub best_of : Row → Best
best_of r = record { action = r.action; candidate = record { chosen = r.chosen; entries = r.entries } }

pub row_made : {c : Counts} {T O : List ℕ} {R : List ℤ} {masks : List ℕ} {entries : List ℤ} {standing t : ℕ} {alphaFile graphFile : List ℕ}
    {count v : ℕ} (r : Row) → Solving c T O R masks entries standing t alphaFile graphFile count → v < count
    → let W = vectors_over c T O R masks entries standing t alphaFile graphFile in
    Gives c.states c.observations alphaFile graphFile W v r → Made c.states c.observations W v (best_of r)
unfolding solved
row_made {c} {v = v} r h l rows = record {
  action_in = rw rows.action (omega (arith, h.acts v l, h.upon.valid.few_actions));
  action_is = rows.action;
  chosen-long = rw rows.chosen (padded-length 0 max_observations c.observations _ h.files.few_observations);
  chosen_is = λ o b. rw rows.chosen (padded-at 0 max_observations c.observations _ o 0 b);
  covers-all = refl;
  entries_long = rw rows.entries (padded-length (pos 0) max_states c.states _ h.files.few_states);
  entries_are = λ s b. rw rows.entries (padded-at (pos 0) max_states c.states _ s (pos 0) b);
}
