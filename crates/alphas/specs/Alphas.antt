-- What one vector of a solver's alpha file, with n entries, and one node of its policy graph file, with a next node for each of k observations, are read as.
-- A word that does not fit, or is missing, gets 19.
use Rattle.std.specs.Prelude.{ℕ, zero, suc, ◌-◌, List, [], ◌∷◌, ◌++◌, ℤ}
use Rattle.integers.specs.Whole.{floor_div}
use Rattle.refusals.specs.Verdicts.{Verdict, Fine, Refused}
use Rattle.words.specs.Words.{Words}
use Rattle.numerals.specs.Numeral.{count_form, decimal_form, node_form}
use Rattle.grammar.specs.Grammar.{Answer, got, refused, ◌then◌, choose, number, signed_number, key}

-- ---- one word

-- an action, in one or two digits; that it exists is tested later
abbrev pub most_action : ℕ
most_action = 99

unfoldable pub action : Words → Answer ℕ
action = number count_form 0 most_action

-- decimals are in units of reward, are read in units of 10 ^ -12, and have at most six digits before the point
abbrev pub most_decimal : ℕ
most_decimal = 1_000_000_000_000_000_000

-- units of 10 ^ -12 in a tick, which is a hundredth
abbrev pub per_tick : ℕ
per_tick = 10_000_000_000

-- rounded down to ticks, towards minus infinity
unfoldable pub decimal : Words → Answer ℤ
decimal ws = signed_number decimal_form most_decimal ws then λ z ws. got (floor_div z per_tick) ws

-- "-"
abbrev pub hyphen : List ℕ
hyphen = 45 ∷ []

-- what a hyphen is read as: no node has this number, in one to three digits
abbrev pub no_node : ℕ
no_node = 1_000

-- a next node by its number, or a hyphen
unfoldable pub next_node : Words → Answer ℕ
next_node ws = choose (key hyphen ws) (λ ws. got no_node ws) (number node_form 0 (no_node - 1) ws)

-- ---- a vector, a node

-- so many of one kind after each other
unfoldable pub several : {A : Type 0} → (Words → Answer A) → ℕ → Words → Answer (List A)
several one zero ws = got [] ws
several one (suc count) ws = several one count ws then λ xs ws. one ws then λ x ws. got (xs ++ (x ∷ [])) ws

pub record Alpha : Type 0 where
  pub action : ℕ
  pub ticks : List ℤ

pub record PolicyNode : Type 0 where
  pub action : ℕ
  pub next : List ℕ

-- an action and n decimals
unfoldable pub alpha : ℕ → Words → Answer Alpha
alpha n ws = action ws then λ a ws. several decimal n ws then λ ts ws. got (record { action = a; ticks = ts }) ws

-- node i: its number, its action and k next nodes
unfoldable pub node : ℕ → ℕ → Words → Answer PolicyNode
node k i ws = number node_form i i ws then λ _ ws. action ws then λ a ws. several next_node k ws then λ os ws. got (record { action = a; next = os }) ws

-- 19, whatever it is that a word does not fit
abbrev pub words_verdict : {A : Type 0} → Answer A → Verdict
words_verdict (got x ws) = Fine
words_verdict (refused number place) = Refused 19 place
