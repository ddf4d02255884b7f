-- A certifier that climbs, from its arrays to the slices that the calls are lent.
use Rattle.std.specs.Prelude.{ℕ, ◌+◌, ◌*◌, List, replicate, pos}
use Rattle.tables.specs.Limits.{max_states, max_actions, max_observations}
use Rattle.levels.specs.Storage.{Cells, cells, rows, Lent, lent, state_size}
use Rattle.climbing.specs.declared.Climber.{Climber}
use Rattle.climbing.specs.declared.Rung.{Rung}

abbrev pub lent_of : Climber → Lent
lent_of h =
    lent h.state (cells h.actions h.choices h.masks h.entries h.corners h.weights h.values) (rows h.informed h.qmdp)

abbrev pub cells_of : Rung → Cells
cells_of w = cells w.actions w.choices w.masks w.entries w.corners w.weights w.values

-- room for a vector at each corner and at one point, of which the weights alone are written yet
abbrev pub blank_cells : List ℕ → Cells
blank_cells weights =
    cells (replicate (max_states + 1) 0) (replicate ((max_states + 1) * max_observations) 0) (replicate (max_states + 1) 0)
    (replicate ((max_states + 1) * max_states) (pos 0)) (replicate max_states (pos 0)) weights (replicate 1 (pos 0))

-- a certifier of which nothing is written yet
abbrev pub blank : Lent
blank =
    lent (replicate state_size 0) (blank_cells (replicate max_states 0))
    (rows (replicate (max_actions * max_states) (pos 0)) (replicate (max_actions * max_states) (pos 0)))
