-- What a policy graph file says that a vector chooses, over the level that stands.
use Rattle.std.specs.Prelude.{ℕ, suc, zero, cond, eqb}
use Rattle.alphas.specs.Alphas.{no_node}

-- the vector that a next node stands for, over level t: a hyphen is vector 0 over level 0, and no vector over a later one, as its number is no vector's
abbrev pub chosen_over : ℕ → ℕ → ℕ
chosen_over zero next = cond (eqb next no_node) 0 next
chosen_over (suc t) next = next
