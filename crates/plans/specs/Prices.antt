-- New prices in mid-plan: the rewards of a model change while level t stands. What a plan of t steps earns from a state then moves by at most t times the
-- largest change; so entries fall by that, and corners, values and rows rise by it, each held at the end of its range.
--
--   SamePlans M M'       models that differ in their rewards at most
--   change M M'          the largest change of any reward, up or down
--   fallen limit x k     x less k, but at least - limit
--   risen limit x k      x plus k, but at most limit
--   repriced n t d L     level t of a model with n states, after a change by d
--   raised_rows t d F     the rows of level t after it
use Rattle.std.specs.Prelude.{ℕ, ◌*◌, ◌<◌, ◌≡◌, cond, ℤ, pos, neg_ℤ, nat_abs, ◌+ℤ◌, ◌-ℤ◌}
use Rattle.std.specs.Int.Signed.{lt_z}
use Rattle.integers.specs.Whole.{total_to, largest_to, lesser}
use Rattle.tables.specs.Model.{Model}
use Rattle.plans.specs.Limits.{range}
use Rattle.plans.specs.Level.{Level}

-- the same counts and discount, and below the counts the same chances
pub record SamePlans (M M' : Model) : Type 0 where
  pub states_same : M'.states ≡ M.states
  pub actions_same : M'.actions ≡ M.actions
  pub observations_same : M'.observations ≡ M.observations
  pub discount_same : M'.discount ≡ M.discount
  pub transition_same : (a : ℕ) → a < M.actions → (s : ℕ) → s < M.states → (s' : ℕ) → s' < M.states → M'.transition s a s' ≡ M.transition s a s'
  pub observation_same : (a : ℕ) → a < M.actions → (s' : ℕ) → s' < M.states → (o : ℕ) → o < M.observations
      → M'.observation a s' o ≡ M.observation a s' o

unfoldable pub change : Model → Model → ℕ
change M M' = largest_to M.actions (λ a. largest_to M.states (λ s. nat_abs (M'.reward s a -ℤ M.reward s a)))

unfoldable pub fallen : ℕ → ℤ → ℕ → ℤ
fallen limit x k = cond (lt_z (x -ℤ pos k) (neg_ℤ (pos limit))) (neg_ℤ (pos limit)) (x -ℤ pos k)

unfoldable pub risen : ℕ → ℤ → ℕ → ℤ
risen limit x k = lesser (x +ℤ pos k) (pos limit)

-- entries of covered states fall; corners rise, and values times the total of their weights; all else stays
unfoldable pub repriced : ℕ → ℕ → ℕ → Level → Level
repriced n t d L = record {
  vectors = L.vectors;
  action = L.action;
  choice = L.choice;
  covers = L.covers;
  entry = λ v s. cond (L.covers v s) (fallen (range t) (L.entry v s) (d * t)) (L.entry v s);
  corner = λ s. risen (range t) (L.corner s) (d * t);
  points = L.points;
  weight = L.weight;
  value = λ i. risen (total_to n (L.weight i) * range t) (L.value i) (total_to n (L.weight i) * (d * t));
}

unfoldable pub raised_rows : ℕ → ℕ → (ℕ → ℕ → ℤ) → ℕ → ℕ → ℤ
raised_rows t d F a s = risen (range t) (F a s) (d * t)
