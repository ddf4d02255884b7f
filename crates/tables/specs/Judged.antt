-- What tables are refused for: 3, then 5, then 6.
use Rattle.std.specs.Prelude.{ℕ, ◌*◌, Bool, ◌&&◌, leb, eqb, length, replicate, ℤ, pos, nat_abs}
use Rattle.integers.specs.Whole.{total_to}
use Rattle.integers.specs.Search.{every}
use Rattle.tables.specs.Tables.{Tables}
use Rattle.tables.specs.declared.Counts.{Counts}
use Rattle.refusals.specs.Verdicts.{Verdict, ◌before◌, unless, first_of}
use Rattle.tables.specs.Limits.{max_states, max_actions, max_observations, one, max_reward}
use Rattle.tables.specs.Model.{Model}
use Rattle.tables.specs.Storage.{row_place, counts_of, model_of}

-- 1 to a limit
abbrev pub count_within : ℕ → ℕ → Bool
count_within limit n = leb 1 n && leb n limit

abbrev pub counts_within : ℕ → ℕ → ℕ → Bool
counts_within n m k = count_within max_states n && (count_within max_actions m && count_within max_observations k)

-- each of the cells in m blocks of n rows of width w is at most 1
abbrev pub cells_within : ℕ → ℕ → ℕ → (ℕ → ℕ → ℕ → ℕ) → Bool
cells_within m n w cell = every m (λ a. every n (λ s. every w (λ x. leb (cell a s x) one)))

abbrev pub rewards_within : ℕ → ℕ → (ℕ → ℕ → ℤ) → Bool
rewards_within m n reward = every m (λ a. every n (λ s. leb (nat_abs (reward s a)) max_reward))

-- 3: a count, probability, discount or reward is outside its limit
unfoldable pub limits_hold : Model → Bool
limits_hold M =
    counts_within M.states M.actions M.observations
    && (leb M.discount one
    && (cells_within M.actions M.states M.states (λ a s s'. M.transition s a s')
    && (cells_within M.actions M.states M.observations (λ a s' o. M.observation a s' o)
    && rewards_within M.actions M.states M.reward)))

-- a row does not total 1: first by action, then by state, at action × n + state
unfoldable pub rows_total : ℕ → ℕ → ℕ → ℕ → (ℕ → ℕ → ℕ → ℕ) → Verdict
rows_total number m n w cell = first_of m (λ a. first_of n (λ s. unless (eqb (total_to w (λ x. cell a s x)) one) number (row_place n a s)))

-- 5, then 6
abbrev pub rows_verdict : Model → Verdict
rows_verdict M =
    rows_total 5 M.actions M.states M.states (λ a s s'. M.transition s a s')
    before rows_total 6 M.actions M.states M.observations (λ a s' o. M.observation a s' o)

unfoldable pub model_verdict : Model → Verdict
model_verdict M = unless (limits_hold M) 3 0 before rows_verdict M

-- slices of such lengths for T, O and R are long enough for the counts
abbrev pub has_room : Counts → ℕ → ℕ → ℕ → Bool
has_room c transitions observations rewards =
    leb (c.actions * c.states * c.states) transitions
    && (leb (c.actions * c.states * c.observations) observations && leb (c.actions * c.states) rewards)

abbrev pub tables_stored : Tables → Bool
tables_stored m = has_room (counts_of m) (length m.transition) (length m.observation) (length m.reward)

-- 3, then 5, then 6, of tables of any content: a slice shorter than its counts need gets 3
unfoldable pub tables_verdict : Tables → Verdict
tables_verdict m = unless (limits_hold (model_of m) && tables_stored m) 3 0 before rows_verdict (model_of m)

-- tables of which every part is 0
abbrev pub no_tables : Tables
no_tables = record {
  states = 0;
  actions = 0;
  observations = 0;
  discount = 0;
  transition = replicate (max_actions * max_states * max_states) 0;
  observation = replicate (max_actions * max_states * max_observations) 0;
  reward = replicate (max_actions * max_states) (pos 0);
}
