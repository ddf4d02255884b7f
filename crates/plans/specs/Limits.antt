-- The numbers that bound levels, each in its one place.
use Rattle.std.specs.Prelude.{ℕ, ◌*◌}
use Rattle.tables.specs.Limits.{one, max_reward}

abbrev pub max_points : ℕ
max_points = 32

-- the most points that the builder takes
abbrev pub max_built : ℕ
max_built = 16

-- the most that the weights of a point total
abbrev pub max_total : ℕ
max_total = 100

-- entries and corners of level t lie within ± range t, in ticks; a point's value within ± the total of its weights × range t
unfoldable pub range : ℕ → ℕ
range t = max_reward * t

-- the largest weight at which a ceiling is asked: that of a state reached from a point
abbrev pub max_reached : ℕ
max_reached = max_total * (one * one)
