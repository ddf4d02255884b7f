-- What the code asks, and what its answers say together with the cells.
use Rattle.std.specs.Prelude.{ℕ, ◌*◌, ◌≤◌, ◌≡◌, List, length, Result, Ok, Err}
use Rattle.refusals.specs.declared.Refusal.{Refusal}
use Rattle.words.specs.Words.{words_in, between}
use Rattle.tables.specs.Limits.{max_states, max_actions}
use Rattle.grammar.specs.Steps.{Onward}
use Rattle.entries.specs.Entries.{Outcome, filled, stopped}

-- counts within their limits, and cells enough for them
pub record CellsFit {A : Type 0} (m n w : ℕ) (cells : List A) : Type 0 where
  pub some_blocks : 1 ≤ m
  pub few_blocks : m ≤ max_actions
  pub some_rows : 1 ≤ n
  pub few_rows : n ≤ max_states
  pub some_places : 1 ≤ w
  pub few_places : w ≤ max_states
  pub long : m * n * w ≤ length cells

-- an answer, with the cells that are left
abbrev pub outcome_of : {C : Type 0} → C → List ℕ → Result ℕ Refusal → Outcome C
outcome_of cells s (Ok next) = filled cells (words_in between s next)
outcome_of cells s (Err e) = stopped e.0 e.1 cells

pub record Leaves {C : Type 0} (s : List ℕ) (at : ℕ) (r : Result ℕ Refusal) (cells : C) (o : Outcome C) : Type 0 where
  pub is : outcome_of cells s r ≡ o
  pub onward : Onward (λ _. Unit) (λ next. next) s at r
