-- The numbers of document 01 that bound plan graphs, each in its one place.
use Rattle.std.specs.Prelude.{ℕ}

abbrev pub max_nodes : ℕ
max_nodes = 32

-- the most steps left that a worth is asked with
abbrev pub max_steps : ℕ
max_steps = 4
