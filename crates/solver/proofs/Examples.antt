-- Small files, read by the prover: it computes the definitions that the contracts name. Assumes nothing.
--
-- In order: alpha files with two entries in a vector, and graph files with two observations; a slash stands for an LF; what they are read as.
use Rattle.integers.proofs.Kit.{◌≡◌, refl, List, [], ◌∷◌, ℕ, pos, negsuc}
use Rattle.integers.specs.Whole.{floor_div}
use Rattle.integers.specs.Search.{every}
use Rattle.refusals.specs.Verdicts.{Fine, Refused}
use Rattle.words.specs.Words.{word_run, words_of, words_in}
use Rattle.numerals.specs.Numeral.{digits, value, amount_of, fraction, after_point, exponent}
use Rattle.grammar.specs.Grammar.{number, magnitude, signed_number, same, key}
use Rattle.alphas.specs.Alphas.{action, decimal, no_node, next_node, several, alpha, node}
use Rattle.solver.specs.Files.{all_from, all_in, vectors_in, action_at, ticks_at, next_at, alike, files_verdict}

-- ---- alpha files with two entries in a vector, and graph files with two observations; a slash stands for an LF

-- 0 1.25 -0.001 / 1 -0 2, with two entries each
abbrev two_alphas : List ℕ
two_alphas = 48 ∷ 32 ∷ 49 ∷ 46 ∷ 50 ∷ 53 ∷ 32 ∷ 45 ∷ 48 ∷ 46 ∷ 48 ∷ 48 ∷ 49 ∷ 10 ∷ 49 ∷ 32 ∷ 45 ∷ 48 ∷ 32 ∷ 50 ∷ []

-- 0 0 1 - / 1 1 0 0, with two observations
abbrev two_nodes : List ℕ
two_nodes = 48 ∷ 32 ∷ 48 ∷ 32 ∷ 49 ∷ 32 ∷ 45 ∷ 10 ∷ 49 ∷ 32 ∷ 49 ∷ 32 ∷ 48 ∷ 32 ∷ 48 ∷ []

-- 0 0 1 - / 1 2 0 0
abbrev other_action : List ℕ
other_action = 48 ∷ 32 ∷ 48 ∷ 32 ∷ 49 ∷ 32 ∷ 45 ∷ 10 ∷ 49 ∷ 32 ∷ 50 ∷ 32 ∷ 48 ∷ 32 ∷ 48 ∷ []

-- 0 0 1 -
abbrev one_node : List ℕ
one_node = 48 ∷ 32 ∷ 48 ∷ 32 ∷ 49 ∷ 32 ∷ 45 ∷ []

-- 0 0 1 - / 2 1 0 0
abbrev out_of_order : List ℕ
out_of_order = 48 ∷ 32 ∷ 48 ∷ 32 ∷ 49 ∷ 32 ∷ 45 ∷ 10 ∷ 50 ∷ 32 ∷ 49 ∷ 32 ∷ 48 ∷ 32 ∷ 48 ∷ []

-- 0 - 1 -
abbrev hyphen_action : List ℕ
hyphen_action = 48 ∷ 32 ∷ 45 ∷ 32 ∷ 49 ∷ 32 ∷ 45 ∷ []

-- 0 0 1 # -
abbrev short_node : List ℕ
short_node = 48 ∷ 32 ∷ 48 ∷ 32 ∷ 49 ∷ 32 ∷ 35 ∷ 32 ∷ 45 ∷ []

-- 0 9 1 - / x
abbrev other_and_unfit : List ℕ
other_and_unfit = 48 ∷ 32 ∷ 57 ∷ 32 ∷ 49 ∷ 32 ∷ 45 ∷ 10 ∷ 120 ∷ []

-- 0 1.25
abbrev short_alpha : List ℕ
short_alpha = 48 ∷ 32 ∷ 49 ∷ 46 ∷ 50 ∷ 53 ∷ []

-- 0 1000000 0
abbrev seven_digits : List ℕ
seven_digits = 48 ∷ 32 ∷ 49 ∷ 48 ∷ 48 ∷ 48 ∷ 48 ∷ 48 ∷ 48 ∷ 32 ∷ 48 ∷ []

-- 0 0.0000000000001 0
abbrev thirteen_decimals : List ℕ
thirteen_decimals = 48 ∷ 32 ∷ 48 ∷ 46 ∷ 48 ∷ 48 ∷ 48 ∷ 48 ∷ 48 ∷ 48 ∷ 48 ∷ 48 ∷ 48 ∷ 48 ∷ 48 ∷ 48 ∷ 49 ∷ 32 ∷ 48 ∷ []

-- 0 : 0
abbrev colon_alpha : List ℕ
colon_alpha = 48 ∷ 32 ∷ 58 ∷ 32 ∷ 48 ∷ []

-- * 0 0
abbrev star_alpha : List ℕ
star_alpha = 42 ∷ 32 ∷ 48 ∷ 32 ∷ 48 ∷ []

-- 99 999999.999999999999 -999999.999999999999
abbrev largest : List ℕ
largest = 57 ∷ 57 ∷ 32 ∷ 57 ∷ 57 ∷ 57 ∷ 57 ∷ 57 ∷ 57 ∷ 46 ∷ 57 ∷ 57 ∷ 57 ∷ 57 ∷ 57 ∷ 57 ∷ 57 ∷ 57 ∷ 57 ∷ 57 ∷ 57 ∷ 57 ∷ 32 ∷ 45 ∷ 57 ∷ 57 ∷ 57 ∷ 57
    ∷ 57 ∷ 57 ∷ 46 ∷ 57 ∷ 57 ∷ 57 ∷ 57 ∷ 57 ∷ 57 ∷ 57 ∷ 57 ∷ 57 ∷ 57 ∷ 57 ∷ 57 ∷ []

-- ---- what they are read as

pub record Examples : Type 0 where
  -- two vectors
  pub two : files_verdict 2 2 two_alphas two_nodes ≡ Fine
  pub two-counted : vectors_in 2 two_alphas ≡ 2
  pub first-action : action_at 2 two_alphas 0 ≡ 0
  pub second-action : action_at 2 two_alphas 1 ≡ 1
  -- 1.25 is 125 ticks, -0.001 is -1 tick, and -0 is 0
  pub pointed : ticks_at 2 two_alphas 0 0 ≡ pos 125
  pub rounded-down : ticks_at 2 two_alphas 0 1 ≡ negsuc 0
  pub minus-zero : ticks_at 2 two_alphas 1 0 ≡ pos 0
  pub unpointed : ticks_at 2 two_alphas 1 1 ≡ pos 200
  -- a next node, and a hyphen
  pub next-node : next_at 2 two_nodes 0 0 ≡ 1
  pub next-hyphen : next_at 2 two_nodes 0 1 ≡ no_node
  -- 999999.99 units above 0, and 1000000 below it
  pub largest-up : ticks_at 2 largest 0 0 ≡ pos 99_999_999
  pub largest-down : ticks_at 2 largest 0 1 ≡ negsuc 99_999_999
  -- 19: a hyphen for an action, a node out of order, and a missing word, in comments too
  pub hyphen-for-an-action : files_verdict 2 2 two_alphas hyphen_action ≡ Refused 19 2
  pub node-out-of-order : files_verdict 2 2 two_alphas out_of_order ≡ Refused 19 8
  pub missing-node : files_verdict 2 2 two_alphas short_node ≡ Refused 19 9
  pub missing-decimal : files_verdict 2 2 short_alpha two_nodes ≡ Refused 19 6
  -- 19: seven digits, thirteen decimals, a colon, a star
  pub seven-digits : files_verdict 2 2 seven_digits two_nodes ≡ Refused 19 2
  pub thirteen-decimals : files_verdict 2 2 thirteen_decimals two_nodes ≡ Refused 19 2
  pub colon-for-a-decimal : files_verdict 2 2 colon_alpha two_nodes ≡ Refused 19 2
  pub star-for-an-action : files_verdict 2 2 star_alpha two_nodes ≡ Refused 19 0
  -- the alpha file before the graph file, and 19 before 20
  pub alpha-first : files_verdict 2 2 short_alpha out_of_order ≡ Refused 19 6
  pub unfit-before-unlike : files_verdict 2 2 two_alphas other_and_unfit ≡ Refused 19 8
  -- 20: another action, or another number of vectors
  pub another-action : files_verdict 2 2 two_alphas other_action ≡ Refused 20 0
  pub fewer-nodes : files_verdict 2 2 two_alphas one_node ≡ Refused 20 0
  pub no-nodes : files_verdict 2 2 two_alphas [] ≡ Refused 20 0
  pub no-vectors : files_verdict 2 2 [] two_nodes ≡ Refused 20 0
  -- two empty files have no vector
  pub empty : files_verdict 2 2 [] [] ≡ Fine
  pub none-counted : vectors_in 2 [] ≡ 0

pub examples : Examples
unfolding word_run words_of words_in digits value amount_of fraction after_point exponent number magnitude signed_number same key floor_div every action
    decimal next_node several alpha node all_from all_in alike files_verdict
examples = record {
  two = refl;
  two-counted = refl;
  first-action = refl;
  second-action = refl;
  pointed = refl;
  rounded-down = refl;
  minus-zero = refl;
  unpointed = refl;
  next-node = refl;
  next-hyphen = refl;
  largest-up = refl;
  largest-down = refl;
  hyphen-for-an-action = refl;
  node-out-of-order = refl;
  missing-node = refl;
  missing-decimal = refl;
  seven-digits = refl;
  thirteen-decimals = refl;
  colon-for-a-decimal = refl;
  star-for-an-action = refl;
  alpha-first = refl;
  unfit-before-unlike = refl;
  another-action = refl;
  fewer-nodes = refl;
  no-nodes = refl;
  no-vectors = refl;
  empty = refl;
  none-counted = refl;
}
