-- The first words of a model file: its headers in order, and the start numbers.
use Rattle.std.specs.Prelude.{ℕ, List, [], ◌∷◌, replicate}
use Rattle.tables.specs.declared.Counts.{Counts}
use Rattle.tables.specs.Limits.{max_states, max_actions, max_observations, one}
use Rattle.words.specs.Words.{Words}
use Rattle.drafts.specs.Drafts.{stated}
use Rattle.numerals.specs.Numeral.{count_form}
use Rattle.grammar.specs.Grammar.{Answer, got, ◌then◌, key, key_named, field}
use Rattle.entries.specs.Entries.{wholly, Forms, forms, start_number_by, row}

-- ---- the words of the headers, in bytes

-- "discount"
abbrev pub discount_name : List ℕ
discount_name = 100 ∷ 105 ∷ 115 ∷ 99 ∷ 111 ∷ 117 ∷ 110 ∷ 116 ∷ []

-- "values"
abbrev pub values_name : List ℕ
values_name = 118 ∷ 97 ∷ 108 ∷ 117 ∷ 101 ∷ 115 ∷ []

-- "reward"
abbrev pub reward_word : List ℕ
reward_word = 114 ∷ 101 ∷ 119 ∷ 97 ∷ 114 ∷ 100 ∷ []

-- "states"
abbrev pub states_name : List ℕ
states_name = 115 ∷ 116 ∷ 97 ∷ 116 ∷ 101 ∷ 115 ∷ []

-- "actions"
abbrev pub actions_name : List ℕ
actions_name = 97 ∷ 99 ∷ 116 ∷ 105 ∷ 111 ∷ 110 ∷ 115 ∷ []

-- "observations"
abbrev pub observations_name : List ℕ
observations_name = 111 ∷ 98 ∷ 115 ∷ 101 ∷ 114 ∷ 118 ∷ 97 ∷ 116 ∷ 105 ∷ 111 ∷ 110 ∷ 115 ∷ []

-- "start"
abbrev pub start_name : List ℕ
start_name = 115 ∷ 116 ∷ 97 ∷ 114 ∷ 116 ∷ []

-- ---- with numbers of the forms f

abbrev pub counts_with : ℕ → ℕ → ℕ → ℕ → Counts
counts_with n m k d = record { states = n; actions = m; observations = k; discount = d }

-- `states:`, `actions:` and `observations:`, beside a discount
abbrev pub header_counts : ℕ → Words → Answer Counts
header_counts d ws =
    field states_name count_form 1 max_states ws then λ n ws. field actions_name count_form 1 max_actions ws then λ m ws.
    field observations_name count_form 1 max_observations ws then λ k ws. got (counts_with n m k d) ws

-- `discount:` in thousandths, `values: reward`, and the counts
unfoldable pub header_by : Forms → Words → Answer Counts
header_by f ws =
    field discount_name f.probability 0 one ws then λ d ws. key_named values_name ws then λ _ ws. key reward_word ws then λ _ ws. header_counts d ws

-- `start:` with n numbers, in hundredths
unfoldable pub start_by : Forms → ℕ → Words → Answer (List ℕ)
start_by f n ws = key_named start_name ws then λ _ ws. wholly (row (start_number_by f) (stated 1 1 n 0 0) 0 n (replicate max_states 0) ws)

-- ---- the same with the forms that numbers have

abbrev pub header : Words → Answer Counts
header = header_by forms

abbrev pub start_numbers : ℕ → Words → Answer (List ℕ)
start_numbers = start_by forms
