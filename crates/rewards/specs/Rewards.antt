-- The rewards of a model file over its words, with numbers of the forms f, m actions, n states and k observations. In a file whose rewards are `full`, R names
-- the state reached and the observation too; in others both are stars.
use Rattle.std.specs.Prelude.{ℕ, Bool, cond, List, leb, ℤ}
use Rattle.words.specs.Words.{Words}
use Rattle.tables.specs.Limits.{max_converted, max_reward}
use Rattle.drafts.specs.Drafts.{rewarded, outcomed}
use Rattle.grammar.specs.Grammar.{Answer, keys, colon, star, signed_number}
use Rattle.entries.specs.Entries.{Outcome, filled, upon, Forms, forms, indexed}

-- ---- rewards, up to 1000.00

abbrev pub reward_number_by : Forms → Words → Answer ℤ
reward_number_by f = signed_number f.reward max_reward

-- `: *`
abbrev pub starred : Words → Answer ℕ
starred = keys colon star

-- `r`
unfoldable pub reward_by : Forms → ℕ → ℕ → ℕ → ℕ → List ℤ → Words → Outcome (List ℤ)
reward_by f m n a s cells ws = upon cells (reward_number_by f ws) (λ r ws. filled (rewarded m n a s r cells) ws)

-- after `R`: `: a : s : * : * r`
unfoldable pub rewards_by : Forms → ℕ → ℕ → List ℤ → Words → Outcome (List ℤ)
rewards_by f m n cells ws =
    upon cells (indexed m ws) (λ a ws. upon cells (indexed n ws) (λ s ws. upon cells (starred ws) (λ _ ws. upon cells (starred ws) (λ _ ws.
    reward_by f m n a s cells ws))))

-- ---- rewards in full

-- a model of more states is refused whatever its rewards are, so none of them is kept
abbrev pub outcome_kept : ℕ → ℕ → ℕ → ℕ → ℕ → ℕ → ℕ → ℤ → List ℤ → List ℤ
outcome_kept m n k a s s' o r cells = cond (leb n max_converted) (outcomed m n k a s s' o r cells) cells

-- `r`
unfoldable pub outcome_by : Forms → ℕ → ℕ → ℕ → ℕ → ℕ → ℕ → ℕ → List ℤ → Words → Outcome (List ℤ)
outcome_by f m n k a s s' o cells ws = upon cells (reward_number_by f ws) (λ r ws. filled (outcome_kept m n k a s s' o r cells) ws)

-- after `R`: `: a : s : s' : o r`
unfoldable pub outcomes_by : Forms → ℕ → ℕ → ℕ → List ℤ → Words → Outcome (List ℤ)
outcomes_by f m n k cells ws =
    upon cells (indexed m ws) (λ a ws. upon cells (indexed n ws) (λ s ws. upon cells (indexed n ws) (λ s' ws. upon cells (indexed k ws) (λ o ws.
    outcome_by f m n k a s s' o cells ws))))

-- ---- either

abbrev pub rewards_or_outcomes_by : Forms → Bool → ℕ → ℕ → ℕ → List ℤ → Words → Outcome (List ℤ)
rewards_or_outcomes_by f full m n k cells ws = cond full (outcomes_by f m n k cells ws) (rewards_by f m n cells ws)

-- ---- the same with the forms that numbers have

abbrev pub reward_number : Words → Answer ℤ
reward_number = reward_number_by forms

abbrev pub reward : ℕ → ℕ → ℕ → ℕ → List ℤ → Words → Outcome (List ℤ)
reward = reward_by forms

abbrev pub rewards : ℕ → ℕ → List ℤ → Words → Outcome (List ℤ)
rewards = rewards_by forms

abbrev pub outcome : ℕ → ℕ → ℕ → ℕ → ℕ → ℕ → ℕ → List ℤ → Words → Outcome (List ℤ)
outcome = outcome_by forms

abbrev pub outcomes : ℕ → ℕ → ℕ → List ℤ → Words → Outcome (List ℤ)
outcomes = outcomes_by forms

abbrev pub rewards_or_outcomes : Bool → ℕ → ℕ → ℕ → List ℤ → Words → Outcome (List ℤ)
rewards_or_outcomes = rewards_or_outcomes_by forms
