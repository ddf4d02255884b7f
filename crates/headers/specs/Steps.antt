-- What the code's answers say.
use Rattle.std.specs.Prelude.{ℕ, ◌≤◌, List, Result}
use Rattle.refusals.specs.declared.Refusal.{Refusal}
use Rattle.tables.specs.declared.Counts.{Counts}
use Rattle.tables.specs.Limits.{max_states, max_actions, max_observations, one}
use Rattle.grammar.specs.declared.Read.{Read}
use Rattle.grammar.specs.Grammar.{Answer}
use Rattle.grammar.specs.Steps.{Told, Tells}

-- counts within their limits
pub record CountsFit (n m k d : ℕ) : Type 0 where
  pub states : (1 ≤ n) × (n ≤ max_states)
  pub actions : (1 ≤ m) × (m ≤ max_actions)
  pub observations : (1 ≤ k) × (k ≤ max_observations)
  pub discount : d ≤ one

-- ---- an answer

-- the counts are within their limits, and reading goes on inside the file
abbrev pub Heads : List ℕ → ℕ → Result (Read Counts) Refusal → Answer Counts → Type 0
Heads s at r a = Tells (λ c. CountsFit c.states c.actions c.observations c.discount) (λ c. c) s at r a

-- what is read is in cells
abbrev pub Fills : {C : Type 0} → List ℕ → ℕ → Result ℕ Refusal → C → Answer C → Type 0
Fills s at r cells a = Told (λ _. Unit) (λ _. cells) (λ next. next) s at r a
