-- A model and start numbers as the bytes of a model file: headers, start numbers, a row of T and of O for each action and state, and a line for each reward.
--
--     discount: 0.900
--     values: reward
--     states: 2
--     actions: 1
--     observations: 2
--     start: 0.50 0.50
--     T: 0 : 0 0.500 0.500
--     ..
--     O: 0 : 0 0.800 0.200
--     ..
--     R: 0 : 0 : * : * -1.00
--     ..
use Rattle.std.specs.Prelude.{ℕ, List, [], ◌∷◌, ◌++◌, get_or, ℤ}
pub use Rattle.digits.specs.Digits.{digits_for, newline, spaced}
unfoldable pub use Rattle.digits.specs.Digits.{parts_to, last_digits, whole, fixed, signed_fixed, line, opening}
use Rattle.tables.specs.declared.Counts.{Counts}
use Rattle.tables.specs.Storage.{transition_in, observation_in, reward_in}

-- ---- statements

-- how many decimals the numbers of a table and the discount have, and start numbers and rewards
abbrev pub table_places : ℕ
table_places = 3

abbrev pub amount_places : ℕ
amount_places = 2

-- the rows of a table, in thousandths: "K: a : s" and w numbers, for each of m blocks of n rows
unfoldable pub row_text : ℕ → ℕ → ℕ → ℕ → (ℕ → ℕ) → List ℕ
row_text key a s w cell = opening key a s ++ (parts_to w (λ x. spaced (fixed table_places (cell x))) ++ newline)

unfoldable pub table_text : ℕ → ℕ → ℕ → ℕ → (ℕ → ℕ → ℕ → ℕ) → List ℕ
table_text key m n w cell = parts_to m (λ a. parts_to n (λ s. row_text key a s w (cell a s)))

-- " : * : *"
abbrev pub any_outcome : List ℕ
any_outcome = 32 ∷ 58 ∷ 32 ∷ 42 ∷ 32 ∷ 58 ∷ 32 ∷ 42 ∷ []

-- the rewards, in ticks: "R: a : s : * : * r"
unfoldable pub reward_text : ℕ → ℕ → ℤ → List ℕ
reward_text a s r = opening 82 a s ++ (any_outcome ++ (spaced (signed_fixed amount_places r) ++ newline))

unfoldable pub rewards_text : ℕ → ℕ → (ℕ → ℕ → ℤ) → List ℕ
rewards_text m n reward = parts_to m (λ a. parts_to n (λ s. reward_text a s (reward s a)))

-- ---- the file

-- "discount: d", "values: reward", "states: n", "actions: m", "observations: k"
unfoldable pub header_text : Counts → List ℕ
header_text c =
    line (100 ∷ 105 ∷ 115 ∷ 99 ∷ 111 ∷ 117 ∷ 110 ∷ 116 ∷ []) (fixed table_places c.discount)
    ++ (line (118 ∷ 97 ∷ 108 ∷ 117 ∷ 101 ∷ 115 ∷ []) (114 ∷ 101 ∷ 119 ∷ 97 ∷ 114 ∷ 100 ∷ [])
    ++ (line (115 ∷ 116 ∷ 97 ∷ 116 ∷ 101 ∷ 115 ∷ []) (whole c.states)
    ++ (line (97 ∷ 99 ∷ 116 ∷ 105 ∷ 111 ∷ 110 ∷ 115 ∷ []) (whole c.actions)
    ++ line (111 ∷ 98 ∷ 115 ∷ 101 ∷ 114 ∷ 118 ∷ 97 ∷ 116 ∷ 105 ∷ 111 ∷ 110 ∷ 115 ∷ []) (whole c.observations))))

-- "start:" and n numbers, in hundredths
unfoldable pub start_text : ℕ → List ℕ → List ℕ
start_text n start = 115 ∷ 116 ∷ 97 ∷ 114 ∷ 116 ∷ 58 ∷ parts_to n (λ s. spaced (fixed amount_places (get_or start s 0))) ++ newline

-- all of it, of tables and start numbers in slices
unfoldable pub file_text : Counts → List ℕ → List ℕ → List ℤ → List ℕ → List ℕ
file_text c transition observation reward start =
    header_text c
    ++ (start_text c.states start
    ++ (table_text 84 c.actions c.states c.states (λ a s s'. transition_in c.states transition s a s')
    ++ (table_text 79 c.actions c.states c.observations (observation_in c.states c.observations observation)
    ++ rewards_text c.actions c.states (reward_in c.states reward))))

abbrev pub max_text : ℕ
max_text = 32_768
