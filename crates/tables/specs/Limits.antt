-- The numbers that bound a model and what a certifier holds, each in its one place.
use Rattle.std.specs.Prelude.{ℕ, ◌*◌}

abbrev pub max_states : ℕ
max_states = 64

-- the most states of a model that is converted
abbrev pub max_converted : ℕ
max_converted = 16

abbrev pub max_actions : ℕ
max_actions = 8

abbrev pub max_observations : ℕ
max_observations = 8

abbrev pub max_vectors : ℕ
max_vectors = 1_000

-- the most rows of a slice in which cells are looked up by row: the vectors of a level; T, O, R, points and graphs have fewer
abbrev pub max_rows : ℕ
max_rows = max_vectors

-- the total of a row, and the largest probability and discount: 1, in thousandths
abbrev pub one : ℕ
one = 1_000

-- what start numbers total: 1, in hundredths
abbrev pub start_total : ℕ
start_total = 100

-- the largest reward, either way, in ticks
abbrev pub max_reward : ℕ
max_reward = 100_000

-- the largest weight of a mixture
abbrev pub max_weight : ℕ
max_weight = 1_000_000

-- the most levels that are accepted
abbrev pub max_levels : ℕ
max_levels = 100

-- the largest entry of a vector, either way: that of the last level, in ticks
abbrev pub max_entry : ℕ
max_entry = max_reward * max_levels

-- a backup is worked out in units of 1 / K tick: discount, transition and observation are thousandths each
unfoldable pub K : ℕ
K = 1_000_000_000
