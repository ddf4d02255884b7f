-- The statements of a model file over its words, with numbers of the forms f, m actions, n states and k observations. Each changes the cells that the ones
-- before it left.
use Rattle.std.specs.Prelude.{ℕ, zero, suc, Bool, List, [], ◌∷◌, ℤ}
use Rattle.words.specs.Words.{Words}
use Rattle.grammar.specs.Grammar.{choose, key, unless_end}
use Rattle.entries.specs.Entries.{Outcome, filled, stopped, upon, Forms, forms, table_by}
use Rattle.rewards.specs.Rewards.{rewards_or_outcomes_by}

-- ---- parts that change cells

-- cells as a part of more
abbrev pub within : {C D : Type 0} → (C → D) → Outcome C → Outcome D
within f (filled cells ws) = filled (f cells) ws
within f (stopped n p cells) = stopped n p (f cells)

-- what follows a part that changes them
abbrev pub further : {C : Type 0} → Outcome C → (C → Words → Outcome C) → Outcome C
further (filled cells ws) k = k cells ws
further (stopped n p cells) k = stopped n p cells

-- ---- statements

-- the cells of the three tables
pub record Draft : Type 0 where
  pub transition : List ℕ
  pub observation : List ℕ
  pub reward : List ℤ

abbrev pub draft : List ℕ → List ℕ → List ℤ → Draft
draft t o r = record { transition = t; observation = o; reward = r }

-- "T", "O" and "R"
abbrev pub transition_key : List ℕ
transition_key = 84 ∷ []

abbrev pub observation_key : List ℕ
observation_key = 79 ∷ []

abbrev pub reward_key : List ℕ
reward_key = 82 ∷ []

unfoldable pub reward_statement_by : Forms → Bool → ℕ → ℕ → ℕ → Draft → Words → Outcome Draft
reward_statement_by f full m n k d ws =
    upon d (key reward_key ws) (λ _ ws. within (λ cells. draft d.transition d.observation cells) (rewards_or_outcomes_by f full m n k d.reward ws))

unfoldable pub observation_or_reward_by : Forms → Bool → ℕ → ℕ → ℕ → Draft → Words → Outcome Draft
observation_or_reward_by f full m n k d ws =
    choose (key observation_key ws) (λ ws. within (λ cells. draft d.transition cells d.reward) (table_by f m n k d.observation ws))
    (reward_statement_by f full m n k d ws)

unfoldable pub one_statement_by : Forms → Bool → ℕ → ℕ → ℕ → Draft → Words → Outcome Draft
one_statement_by f full m n k d ws =
    choose (key transition_key ws) (λ ws. within (λ cells. draft cells d.observation d.reward) (table_by f m n n d.transition ws))
    (observation_or_reward_by f full m n k d ws)

-- any number of them, up to the end of the file; each has a word, so that one more than the file has bytes are enough
unfoldable pub statements_by : Forms → Bool → ℕ → ℕ → ℕ → ℕ → Draft → Words → Outcome Draft
statements_by f full zero m n k d ws = unless_end ws (filled d ws) (stopped 0 0 d)
statements_by f full (suc fuel) m n k d ws =
    unless_end ws (filled d ws) (further (one_statement_by f full m n k d ws) (λ d ws. statements_by f full fuel m n k d ws))

-- ---- the same with the forms that numbers have

abbrev pub reward_statement : Bool → ℕ → ℕ → ℕ → Draft → Words → Outcome Draft
reward_statement = reward_statement_by forms

abbrev pub observation_or_reward : Bool → ℕ → ℕ → ℕ → Draft → Words → Outcome Draft
observation_or_reward = observation_or_reward_by forms

abbrev pub one_statement : Bool → ℕ → ℕ → ℕ → Draft → Words → Outcome Draft
one_statement = one_statement_by forms

abbrev pub statements : Bool → ℕ → ℕ → ℕ → ℕ → Draft → Words → Outcome Draft
statements = statements_by forms
