-- Small files, converted by the prover: it computes the definitions that the contract names. Assumes nothing.
--
-- In order: files and what they are written as; a slash stands for an LF; what they are converted to.
use Rattle.integers.proofs.Kit.{◌≡◌, refl, sym, false, List, [], ◌∷◌, ℕ, leb, length}
use mathlib.Core.List.{◌++◌}
use Rattle.integers.specs.Whole.{◌·◌, sum_to, total_to, floor_div}
use Rattle.integers.specs.Search.{some}
use Rattle.integers.specs.Cells.{listed, laid, laid_rows}
use Rattle.refusals.specs.Verdicts.{Fine, Refused, first_of}
use Rattle.tables.specs.Judged.{rows_total}
use Rattle.words.specs.Words.{word_run, words_of, words_in}
use Rattle.numerals.specs.Numeral.{digits, value, powered, amount_of, fraction, after_point, exponent}
use Rattle.drafts.specs.Drafts.{marked_from, stated, outcomed}
use Rattle.grammar.specs.Grammar.{number, magnitude, signed_number, same, key, keys, field, index}
use Rattle.entries.specs.Entries.{indexed, row, entry_by, table_by}
use Rattle.rewards.specs.Rewards.{outcome_by, outcomes_by}
use Rattle.statements.specs.Statements.{reward_statement_by, observation_or_reward_by, one_statement_by, statements_by}
use Rattle.headers.specs.Headers.{header_by, start_by}
use Rattle.bodies.specs.Body.{body_by, sums_verdict}
use Rattle.modelfile.specs.ModelFile.{max_bytes}
use Rattle.expected.specs.Expected.{expected_millionths, expected_verdict}
use Rattle.written.specs.Text.{parts_to, last_digits, whole, fixed, signed_fixed, line, opening, row_text, table_text, reward_text, rewards_text, header_text}
use Rattle.written.specs.Text.{start_text, file_text}
use Rattle.conversion.specs.Convert.{expect_verdict, convert_verdict, converted}
use Rattle.conversion.proofs.Converting.{long-file}

-- ---- files and what they are written as; a slash stands for an LF

-- discount: 1 / values: reward / states: 1 / actions: 1 / observations: 2 / start: 1 / T: 0 : 0 1 / O: 0 : (0).5.5 / R: 0 : 0 : 0 : 1 -.02
abbrev one_state : List ℕ
one_state = 100 ∷ 105 ∷ 115 ∷ 99 ∷ 111 ∷ 117 ∷ 110 ∷ 116 ∷ 58 ∷ 32 ∷ 49 ∷ 10 ∷ 118 ∷ 97 ∷ 108 ∷ 117 ∷ 101 ∷ 115 ∷ 58 ∷ 32 ∷ 114 ∷ 101 ∷ 119 ∷ 97 ∷ 114 ∷ 100
    ∷ 10 ∷ 115 ∷ 116 ∷ 97 ∷ 116 ∷ 101 ∷ 115 ∷ 58 ∷ 32 ∷ 49 ∷ 10 ∷ 97 ∷ 99 ∷ 116 ∷ 105 ∷ 111 ∷ 110 ∷ 115 ∷ 58 ∷ 32 ∷ 49 ∷ 10 ∷ 111 ∷ 98 ∷ 115 ∷ 101 ∷ 114
    ∷ 118 ∷ 97 ∷ 116 ∷ 105 ∷ 111 ∷ 110 ∷ 115 ∷ 58 ∷ 32 ∷ 50 ∷ 10 ∷ 115 ∷ 116 ∷ 97 ∷ 114 ∷ 116 ∷ 58 ∷ 32 ∷ 49 ∷ 10 ∷ 84 ∷ 58 ∷ 32 ∷ 48 ∷ 32 ∷ 58 ∷ 32 ∷ 48
    ∷ 32 ∷ 49 ∷ 10 ∷ 79 ∷ 58 ∷ 32 ∷ 48 ∷ 32 ∷ 58 ∷ 32 ∷ 48 ∷ 32 ∷ 46 ∷ 53 ∷ 32 ∷ 46 ∷ 53 ∷ 10 ∷ 82 ∷ 58 ∷ 32 ∷ 48 ∷ 32 ∷ 58 ∷ 32 ∷ 48 ∷ 32 ∷ 58 ∷ 32 ∷ 48
    ∷ 32 ∷ 58 ∷ 32 ∷ 49 ∷ 32 ∷ 45 ∷ 46 ∷ 48 ∷ 50 ∷ 10 ∷ []

-- discount: 1.000 / values: reward / states: 1 / actions: 1 / observations: 2 / start: 1.00 / T: 0 : 0 1.000 / O: 0 : 0 0.500 0.500 / R: 0 : 0 : * : * -0.01
abbrev written : List ℕ
written = 100 ∷ 105 ∷ 115 ∷ 99 ∷ 111 ∷ 117 ∷ 110 ∷ 116 ∷ 58 ∷ 32 ∷ 49 ∷ 46 ∷ 48 ∷ 48 ∷ 48 ∷ 10 ∷ 118 ∷ 97 ∷ 108 ∷ 117 ∷ 101 ∷ 115 ∷ 58 ∷ 32 ∷ 114 ∷ 101 ∷ 119
    ∷ 97 ∷ 114 ∷ 100 ∷ 10 ∷ 115 ∷ 116 ∷ 97 ∷ 116 ∷ 101 ∷ 115 ∷ 58 ∷ 32 ∷ 49 ∷ 10 ∷ 97 ∷ 99 ∷ 116 ∷ 105 ∷ 111 ∷ 110 ∷ 115 ∷ 58 ∷ 32 ∷ 49 ∷ 10 ∷ 111 ∷ 98 ∷ 115
    ∷ 101 ∷ 114 ∷ 118 ∷ 97 ∷ 116 ∷ 105 ∷ 111 ∷ 110 ∷ 115 ∷ 58 ∷ 32 ∷ 50 ∷ 10 ∷ 115 ∷ 116 ∷ 97 ∷ 114 ∷ 116 ∷ 58 ∷ 32 ∷ 49 ∷ 46 ∷ 48 ∷ 48 ∷ 10 ∷ 84 ∷ 58 ∷ 32
    ∷ 48 ∷ 32 ∷ 58 ∷ 32 ∷ 48 ∷ 32 ∷ 49 ∷ 46 ∷ 48 ∷ 48 ∷ 48 ∷ 10 ∷ 79 ∷ 58 ∷ 32 ∷ 48 ∷ 32 ∷ 58 ∷ 32 ∷ 48 ∷ 32 ∷ 48 ∷ 46 ∷ 53 ∷ 48 ∷ 48 ∷ 32 ∷ 48 ∷ 46 ∷ 53
    ∷ 48 ∷ 48 ∷ 10 ∷ 82 ∷ 58 ∷ 32 ∷ 48 ∷ 32 ∷ 58 ∷ 32 ∷ 48 ∷ 32 ∷ 58 ∷ 32 ∷ 42 ∷ 32 ∷ 58 ∷ 32 ∷ 42 ∷ 32 ∷ 45 ∷ 48 ∷ 46 ∷ 48 ∷ 49 ∷ 10 ∷ []

-- discount: 1 / values: reward / states: 2 / actions: 2 / observations: 2 / start: 1 0 / T: * : * : 0 1 / O: * : * .5 .5
abbrev two_states : List ℕ
two_states = 100 ∷ 105 ∷ 115 ∷ 99 ∷ 111 ∷ 117 ∷ 110 ∷ 116 ∷ 58 ∷ 32 ∷ 49 ∷ 10 ∷ 118 ∷ 97 ∷ 108 ∷ 117 ∷ 101 ∷ 115 ∷ 58 ∷ 32 ∷ 114 ∷ 101 ∷ 119 ∷ 97 ∷ 114 ∷ 100
    ∷ 10 ∷ 115 ∷ 116 ∷ 97 ∷ 116 ∷ 101 ∷ 115 ∷ 58 ∷ 32 ∷ 50 ∷ 10 ∷ 97 ∷ 99 ∷ 116 ∷ 105 ∷ 111 ∷ 110 ∷ 115 ∷ 58 ∷ 32 ∷ 50 ∷ 10 ∷ 111 ∷ 98 ∷ 115 ∷ 101 ∷ 114
    ∷ 118 ∷ 97 ∷ 116 ∷ 105 ∷ 111 ∷ 110 ∷ 115 ∷ 58 ∷ 32 ∷ 50 ∷ 10 ∷ 115 ∷ 116 ∷ 97 ∷ 114 ∷ 116 ∷ 58 ∷ 32 ∷ 49 ∷ 32 ∷ 48 ∷ 10 ∷ 84 ∷ 58 ∷ 32 ∷ 42 ∷ 32 ∷ 58
    ∷ 32 ∷ 42 ∷ 32 ∷ 58 ∷ 32 ∷ 48 ∷ 32 ∷ 49 ∷ 10 ∷ 79 ∷ 58 ∷ 32 ∷ 42 ∷ 32 ∷ 58 ∷ 32 ∷ 42 ∷ 32 ∷ 46 ∷ 53 ∷ 32 ∷ 46 ∷ 53 ∷ 10 ∷ []

-- discount: 1 / values: reward / states: 17 / actions: 1 / observations: 2 / start: 1 0 0 0 0 0 0 0 0 0 0 0 0 0 0 0 0 / T: * : * : 0 1 / R: * : * : * : (0).01
abbrev many_states : List ℕ
many_states = 100 ∷ 105 ∷ 115 ∷ 99 ∷ 111 ∷ 117 ∷ 110 ∷ 116 ∷ 58 ∷ 32 ∷ 49 ∷ 10 ∷ 118 ∷ 97 ∷ 108 ∷ 117 ∷ 101 ∷ 115 ∷ 58 ∷ 32 ∷ 114 ∷ 101 ∷ 119 ∷ 97 ∷ 114 ∷ 100
    ∷ 10 ∷ 115 ∷ 116 ∷ 97 ∷ 116 ∷ 101 ∷ 115 ∷ 58 ∷ 32 ∷ 49 ∷ 55 ∷ 10 ∷ 97 ∷ 99 ∷ 116 ∷ 105 ∷ 111 ∷ 110 ∷ 115 ∷ 58 ∷ 32 ∷ 49 ∷ 10 ∷ 111 ∷ 98 ∷ 115 ∷ 101 ∷ 114
    ∷ 118 ∷ 97 ∷ 116 ∷ 105 ∷ 111 ∷ 110 ∷ 115 ∷ 58 ∷ 32 ∷ 50 ∷ 10 ∷ 115 ∷ 116 ∷ 97 ∷ 114 ∷ 116 ∷ 58 ∷ 32 ∷ 49 ∷ 32 ∷ 48 ∷ 32 ∷ 48 ∷ 32 ∷ 48 ∷ 32 ∷ 48 ∷ 32
    ∷ 48 ∷ 32 ∷ 48 ∷ 32 ∷ 48 ∷ 32 ∷ 48 ∷ 32 ∷ 48 ∷ 32 ∷ 48 ∷ 32 ∷ 48 ∷ 32 ∷ 48 ∷ 32 ∷ 48 ∷ 32 ∷ 48 ∷ 32 ∷ 48 ∷ 32 ∷ 48 ∷ 10 ∷ 84 ∷ 58 ∷ 32 ∷ 42 ∷ 32 ∷ 58
    ∷ 32 ∷ 42 ∷ 32 ∷ 58 ∷ 32 ∷ 48 ∷ 32 ∷ 49 ∷ 10 ∷ 82 ∷ 58 ∷ 32 ∷ 42 ∷ 32 ∷ 58 ∷ 32 ∷ 42 ∷ 32 ∷ 58 ∷ 32 ∷ 42 ∷ 32 ∷ 58 ∷ 32 ∷ 48 ∷ 32 ∷ 46 ∷ 48 ∷ 49 ∷ 10
    ∷ []

-- R: 1 : 1 : * : (0).01
abbrev half_tick : List ℕ
half_tick = 82 ∷ 58 ∷ 32 ∷ 49 ∷ 32 ∷ 58 ∷ 32 ∷ 49 ∷ 32 ∷ 58 ∷ 32 ∷ 42 ∷ 32 ∷ 58 ∷ 32 ∷ 48 ∷ 32 ∷ 46 ∷ 48 ∷ 49 ∷ 10 ∷ []

-- R: 1 : 0 : * : (0).01 / R: 0 : 1 : * : (0).01
abbrev two_half_ticks : List ℕ
two_half_ticks = 82 ∷ 58 ∷ 32 ∷ 49 ∷ 32 ∷ 58 ∷ 32 ∷ 48 ∷ 32 ∷ 58 ∷ 32 ∷ 42 ∷ 32 ∷ 58 ∷ 32 ∷ 48 ∷ 32 ∷ 46 ∷ 48 ∷ 49 ∷ 10 ∷ 82 ∷ 58 ∷ 32 ∷ 48 ∷ 32 ∷ 58 ∷ 32 ∷ 49
    ∷ 32 ∷ 58 ∷ 32 ∷ 42 ∷ 32 ∷ 58 ∷ 32 ∷ 48 ∷ 32 ∷ 46 ∷ 48 ∷ 49 ∷ 10 ∷ []

-- R: * : * : * : * 1
abbrev all_ticks : List ℕ
all_ticks = 82 ∷ 58 ∷ 32 ∷ 42 ∷ 32 ∷ 58 ∷ 32 ∷ 42 ∷ 32 ∷ 58 ∷ 32 ∷ 42 ∷ 32 ∷ 58 ∷ 32 ∷ 42 ∷ 32 ∷ 49 ∷ 10 ∷ []

-- O: * : * .5 .5
abbrev halves : List ℕ
halves = 79 ∷ 58 ∷ 32 ∷ 42 ∷ 32 ∷ 58 ∷ 32 ∷ 42 ∷ 32 ∷ 46 ∷ 53 ∷ 32 ∷ 46 ∷ 53 ∷ 10 ∷ []

-- O: * : * .5 .4
abbrev too_little : List ℕ
too_little = 79 ∷ 58 ∷ 32 ∷ 42 ∷ 32 ∷ 58 ∷ 32 ∷ 42 ∷ 32 ∷ 46 ∷ 53 ∷ 32 ∷ 46 ∷ 52 ∷ 10 ∷ []

-- ---- what they are converted to

pub record Examples : Type 0 where
  -- .5 × -0.02, weighed by 1
  pub served : convert_verdict 32_768 one_state ≡ Fine
  pub text : converted one_state ≡ written
  -- 27 comes first, whatever the file, and then 1
  pub short-output : (file : List ℕ) → convert_verdict 32_767 file ≡ Refused 27 0
  pub long-file : (file : List ℕ) → leb (length file) max_bytes ≡ false → convert_verdict 32_768 file ≡ Refused 1 0
  pub empty : convert_verdict 32_768 [] ≡ Refused 2 0
  -- 26 at action × n + state, first by action
  pub last-reward : convert_verdict 32_768 (two_states ++ half_tick) ≡ Refused 26 3
  pub first-action : convert_verdict 32_768 (two_states ++ two_half_ticks) ≡ Refused 26 1
  -- a later statement stands
  pub later-stands : convert_verdict 32_768 (two_states ++ half_tick ++ all_ticks) ≡ Fine
  -- 25 comes before 26, and 6 before 25
  pub many-states : convert_verdict 32_768 (many_states ++ halves) ≡ Refused 25 0
  pub rows-first : convert_verdict 32_768 (many_states ++ too_little) ≡ Refused 6 157

pub examples : Examples
unfolding ◌·◌ sum_to total_to floor_div some listed laid laid_rows first_of rows_total word_run words_of words_in digits value powered amount_of
    fraction after_point exponent marked_from stated outcomed number magnitude signed_number same key keys field index indexed row entry_by table_by
    outcome_by outcomes_by reward_statement_by observation_or_reward_by one_statement_by statements_by header_by start_by body_by sums_verdict
    expected_millionths expected_verdict parts_to last_digits whole fixed signed_fixed line opening row_text table_text reward_text rewards_text
    header_text start_text file_text expect_verdict convert_verdict
examples = record {
  served = refl;
  text = refl;
  short-output = λ file. refl;
  long-file = λ file e. sym (long-file 32_768 file refl e);
  empty = refl;
  last-reward = refl;
  first-action = refl;
  later-stands = refl;
  many-states = refl;
  rows-first = refl;
}
