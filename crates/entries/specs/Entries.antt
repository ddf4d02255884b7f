-- What a T or O statement of a model file does to the cells of its table, over the file's words, with numbers of the forms f, m actions and n states, and w
-- numbers in a row. The start numbers are a row too.
use Rattle.std.specs.Prelude.{ℕ, zero, suc, ◌+◌, List}
use Rattle.words.specs.Words.{Words}
use Rattle.tables.specs.Limits.{one, start_total}
use Rattle.drafts.specs.Drafts.{stated}
use Rattle.numerals.specs.declared.Form.{Form}
use Rattle.numerals.specs.Numeral.{probability_form, start_form, reward_form}
use Rattle.grammar.specs.Grammar.{Answer, got, refused, ◌then◌, choose, key, colon, index, number}

-- ---- reading into cells

-- the cells, and the words that are left; or a refusal's number and place, and the cells as the words before it left them
pub data Outcome (C : Type 0) : Type 0 where
  filled : C → Words → Outcome C
  stopped : ℕ → ℕ → C → Outcome C

-- what follows a part that changes no cells
abbrev pub upon : {A C : Type 0} → C → Answer A → (A → Words → Outcome C) → Outcome C
upon cells (got a ws) k = k a ws
upon cells (refused n p) k = stopped n p cells

-- the cells of a whole part, or its refusal alone
abbrev pub wholly : {C : Type 0} → Outcome C → Answer C
wholly (filled cells ws) = got cells ws
wholly (stopped n p cells) = refused n p

-- ---- numbers, up to 1

-- what forms a file's numbers have: probabilities and the discount in thousandths, start numbers in hundredths, rewards in ticks
pub record Forms : Type 0 where
  pub probability : Form
  pub start : Form
  pub reward : Form

abbrev pub forms : Forms
forms = record { probability = probability_form; start = start_form; reward = reward_form }

abbrev pub probability_by : Forms → Words → Answer ℕ
probability_by f = number f.probability 0 one

abbrev pub start_number_by : Forms → Words → Answer ℕ
start_number_by f = number f.start 0 start_total

-- ---- a table

-- `: i`, one of n or a star
unfoldable pub indexed : ℕ → Words → Answer ℕ
indexed n ws = key colon ws then λ _ ws. index n ws

-- k numbers, put one after the other at the places from x on
unfoldable pub row : (Words → Answer ℕ) → (ℕ → ℕ → List ℕ → List ℕ) → ℕ → ℕ → List ℕ → Words → Outcome (List ℕ)
row one_number put x zero cells ws = filled cells ws
row one_number put x (suc k) cells ws = upon cells (one_number ws) (λ p ws. row one_number put (x + 1) k (put x p cells) ws)

-- `x p`
unfoldable pub entry_by : Forms → ℕ → ℕ → ℕ → ℕ → ℕ → List ℕ → Words → Outcome (List ℕ)
entry_by f m n w a s cells ws = upon cells (index w ws) (λ x ws. upon cells (probability_by f ws) (λ p ws. filled (stated m n w a s x p cells) ws))

-- after `T` or `O`: `: a : s : x p`, or `: a : s` and w numbers
unfoldable pub table_by : Forms → ℕ → ℕ → ℕ → List ℕ → Words → Outcome (List ℕ)
table_by f m n w cells ws =
    upon cells (indexed m ws) (λ a ws. upon cells (indexed n ws) (λ s ws.
    choose (key colon ws) (λ ws. entry_by f m n w a s cells ws) (row (probability_by f) (stated m n w a s) 0 w cells ws)))

-- ---- the same with the forms that numbers have

abbrev pub probability : Words → Answer ℕ
probability = probability_by forms

abbrev pub start_number : Words → Answer ℕ
start_number = start_number_by forms

abbrev pub entry : ℕ → ℕ → ℕ → ℕ → ℕ → List ℕ → Words → Outcome (List ℕ)
entry = entry_by forms

abbrev pub table : ℕ → ℕ → ℕ → List ℕ → Words → Outcome (List ℕ)
table = table_by forms
