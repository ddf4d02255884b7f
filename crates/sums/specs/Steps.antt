-- What the code works out on the way, over storage: partial sums, and what keeps them within their limits.
use Rattle.std.specs.Prelude.{ℕ, ◌*◌, ◌≤◌, ◌<◌, List, length, get_or, ℤ, pos, nat_abs, ◌+ℤ◌}
use Rattle.integers.specs.Whole.{◌·◌, sum_to, total_to}
use Rattle.tables.specs.Limits.{max_states, max_observations, max_vectors, one, max_reward, max_weight, max_entry, K}
use Rattle.tables.specs.Storage.{transition_in, observation_in, reward_in, weight_in, choice_in}
use Rattle.tables.specs.Steps.{rows_to, cells_to}
use Rattle.masks.specs.Masks.{masked_in}
use Rattle.masks.specs.Steps.{MaskedFit}

-- ---- partial sums, each worked out once for all that need it; the laws of regrouping join them to the model's sums

-- the sum over s of p(s) × T(s,a,s')
unfoldable pub moved_in : ℕ → List ℕ → List ℕ → ℕ → ℕ → ℕ
moved_in n cells p a s' = total_to n (λ s. weight_in p s * transition_in n cells s a s')

-- what moved to s', times O(a,s',o)
abbrev pub seen_in : ℕ → ℕ → List ℕ → List ℕ → ℕ → ℕ → ℕ → ℕ
seen_in n k cells moved a o s' = get_or moved s' 0 * observation_in n k cells a s' o

-- the sum over s of p(s) × R(s,a)
unfoldable pub expected_in : ℕ → List ℤ → List ℕ → ℕ → ℤ
expected_in n cells p a = sum_to n (λ s. weight_in p s · reward_in n cells s a)

-- the entry at s' of the vector that v chooses for o, or 0 where it does not cover s'
abbrev pub chosen_in : ℕ → ℕ → List ℕ → List ℤ → List ℕ → ℕ → ℕ → ℕ → ℤ
chosen_in n k masks entries choices v o s' = masked_in n masks entries (choice_in k choices v o) s'

-- the sum over o of O(a,s',o) × that entry
unfoldable pub foreseen_in : ℕ → ℕ → List ℕ → List ℕ → List ℤ → List ℕ → ℕ → ℕ → ℕ → ℤ
foreseen_in n k cells masks entries choices v a s' = sum_to k (λ o. observation_in n k cells a s' o · chosen_in n k masks entries choices v o s')

-- the sum over s' of T(s,a,s') × what is foreseen at s'
unfoldable pub onward_in : ℕ → List ℕ → List ℤ → ℕ → ℕ → ℤ
onward_in n cells foreseen s a = sum_to n (λ s'. transition_in n cells s a s' · get_or foreseen s' (pos 0))

-- K × R(s,a) + g × the sum onward
unfoldable pub backup_in : ℕ → ℕ → List ℕ → List ℤ → List ℤ → ℕ → ℕ → ℤ
backup_in n g cells rewards foreseen a s = K · reward_in n rewards s a +ℤ g · onward_in n cells foreseen s a

-- ---- what is stored within the limits, so that no sum overflows

-- of an action's transitions
pub record TransitionsFit (n : ℕ) (cells : List ℕ) (a : ℕ) : Type 0 where
  pub stored : cells_to n n a ≤ length cells
  pub transition : (s : ℕ) → s < n → (s' : ℕ) → s' < n → transition_in n cells s a s' ≤ one

-- of an action's observations
pub record ObservationsFit (n k : ℕ) (cells : List ℕ) (a : ℕ) : Type 0 where
  pub stored : cells_to n k a ≤ length cells
  pub observation : (s' : ℕ) → s' < n → (o : ℕ) → o < k → observation_in n k cells a s' o ≤ one

-- of an action's rewards
pub record RewardsFit (n : ℕ) (cells : List ℤ) (a : ℕ) : Type 0 where
  pub stored : rows_to n a ≤ length cells
  pub reward : (s : ℕ) → s < n → nat_abs (reward_in n cells s a) ≤ max_reward

-- of the vectors that v chooses
pub record ChosenFit (n k : ℕ) (masks : List ℕ) (entries : List ℤ) (choices : List ℕ) (v : ℕ) : Type 0 where
  pub vectors : ℕ
  pub entries_fit : MaskedFit n vectors masks entries
  pub row : v < max_vectors
  pub stored : rows_to k v ≤ length choices
  pub vector : (o : ℕ) → o < k → choice_in k choices v o < vectors

-- the largest that moves to a state, that is foreseen there, and that is summed onward
abbrev pub moved_limit : ℕ
moved_limit = max_states * (max_weight * one)

abbrev pub foreseen_limit : ℕ
foreseen_limit = max_observations * (one * max_entry)

abbrev pub onward_limit : ℕ
onward_limit = max_states * (one * foreseen_limit)
