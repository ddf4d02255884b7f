-- A table within the limits has columns within them, and words of 32 bits say where their cells begin. Assumes nothing.
use Rattle.integers.proofs.Kit.{List, ℕ, ◌≤◌, ◌<◌, ◌+◌, ◌*◌, ◌^◌, ◌/◌, ◌%◌, arith, length, mul-le-mul, mul-le-mul_right}
use native.Mathlib.Nat as NatL
use Rattle.tables.specs.Limits.{max_states, max_actions, one}
use Rattle.tables.specs.Storage.{transition_in}
use Rattle.tables.specs.Steps.{cells_to}
use Rattle.columns.specs.Columns.{column_of, begins}
use Rattle.columns.specs.Steps.{TableFits}
use Rattle.columns.proofs.Columns.{before-few}

module _ {n m : ℕ} {cells : List ℕ} (h : TableFits n m cells) where
  pub columns-few : m * n ≤ max_actions * max_states
  columns-few = mul-le-mul h.few_actions h.few_states

  -- the word at which the cells of a column begin
  pub begins-few : (c : ℕ) → c ≤ m * n → begins n m (transition_in n cells) c < 2 ^ 32
  begins-few c l =
      let all : m * n * n ≤ max_actions * max_states * max_states = mul-le-mul columns-few h.few_states in
      omega (arith, columns-few, before-few n (transition_in n cells) c, mul-le-mul_right n l)

  module _ (c : ℕ) (l : c < m * n) where
    action_in : c / n < m
    action_in = (NatL.div-lt_iff_lt-mul h.some_states).1 l

    -- the action and the state of a column
    pub column-in : (n ≤ max_states) × ((c / n < max_actions) × (c % n < n))
    column-in = (h.few_states, (omega (arith, action_in, h.few_actions), NatL.mod-lt c h.some_states))

    pub column-stored : cells_to n n (c / n) ≤ length cells
    column-stored =
        let actions : c / n + 1 ≤ m = omega (arith, action_in) in
        omega (arith, mul-le-mul_right n (mul-le-mul_right n actions), h.stored)

    pub column-chance : (s : ℕ) → s < n → column_of n (transition_in n cells) c s ≤ one
    column-chance s b = h.chance (c / n) action_in s b (c % n) (NatL.mod-lt c h.some_states)
