-- What a solver's two files are read as: an alpha file, of vectors with n entries, and a policy graph file, of nodes with a next node for each of k
-- observations. A word that does not fit, or is missing, gets 19; files that differ in the number of vectors or in an action get 20.
use Rattle.std.specs.Prelude.{ℕ, zero, suc, ◌+◌, Bool, ◌&&◌, List, [], ◌∷◌, eqb, length, get_or, ℤ, pos, Result, Ok, Err}
use Rattle.integers.specs.Search.{every}
use Rattle.refusals.specs.declared.Refusal.{Refusal}
use Rattle.refusals.specs.Verdicts.{Verdict, ◌before◌, unless}
use Rattle.words.specs.Words.{Words, words_in, between}
use Rattle.grammar.specs.Grammar.{Answer, got, refused, ◌then◌, unless_end}
use Rattle.alphas.specs.Alphas.{Alpha, PolicyNode, alpha, node, words_verdict}

-- the most bytes of a file
abbrev pub max_file : ℕ
max_file = 4_194_304

-- ---- a file

-- the one numbered i and those after it, up to the end of the file; each has a word, so that one more than the file has bytes are enough
unfoldable pub all_from : {A : Type 0} → (ℕ → Words → Answer A) → ℕ → ℕ → Words → Answer (List A)
all_from one zero i ws = unless_end ws (got [] ws) (refused 0 0)
all_from one (suc fuel) i ws = unless_end ws (got [] ws) (one i ws then λ x ws. all_from one fuel (i + 1) ws then λ xs ws. got (x ∷ xs) ws)

unfoldable pub all_in : {A : Type 0} → (ℕ → Words → Answer A) → List ℕ → Answer (List A)
all_in one file = all_from one (length file + 1) 0 (words_in between file 0)

abbrev pub alphas : ℕ → List ℕ → Answer (List Alpha)
alphas n = all_in (λ _. alpha n)

abbrev pub nodes : ℕ → List ℕ → Answer (List PolicyNode)
nodes k = all_in (node k)

-- what is read; nothing of a file that is refused
abbrev pub read_list : {A : Type 0} → Answer (List A) → List A
read_list (got xs ws) = xs
read_list (refused number place) = []

-- ---- what the two files say

abbrev pub vectors_in : ℕ → List ℕ → ℕ
vectors_in n file = length (read_list (alphas n file))

abbrev pub alpha_at : ℕ → List ℕ → ℕ → Alpha
alpha_at n file v = get_or (read_list (alphas n file)) v (record { action = 0; ticks = [] })

abbrev pub node_at : ℕ → List ℕ → ℕ → PolicyNode
node_at k file v = get_or (read_list (nodes k file)) v (record { action = 0; next = [] })

-- of vector v its action, its entry at s before any backup, and what it chooses after o
abbrev pub action_at : ℕ → List ℕ → ℕ → ℕ
action_at n file v = (alpha_at n file v).action

abbrev pub ticks_at : ℕ → List ℕ → ℕ → ℕ → ℤ
ticks_at n file v s = get_or (alpha_at n file v).ticks s (pos 0)

abbrev pub next_at : ℕ → List ℕ → ℕ → ℕ → ℕ
next_at k file v o = get_or (node_at k file v).next o 0

-- as many vectors as nodes, with the same actions
unfoldable pub alike : ℕ → ℕ → List ℕ → List ℕ → Bool
alike n k alphaFile graphFile =
    eqb (vectors_in n alphaFile) (length (read_list (nodes k graphFile)))
    && every (vectors_in n alphaFile) (λ v. eqb (action_at n alphaFile v) (node_at k graphFile v).action)

-- 19 of the alpha file, then 19 of the graph file, then 20
unfoldable pub files_verdict : ℕ → ℕ → List ℕ → List ℕ → Verdict
files_verdict n k alphaFile graphFile =
    words_verdict (alphas n alphaFile) before words_verdict (nodes k graphFile) before unless (alike n k alphaFile graphFile) 20 0

-- the number of vectors, or the refusal
abbrev pub with_count : Verdict → ℕ → Result ℕ Refusal
with_count (Ok u) vectors = Ok vectors
with_count (Err e) vectors = Err e

abbrev pub files_judged : ℕ → ℕ → List ℕ → List ℕ → Result ℕ Refusal
files_judged n k alphaFile graphFile = with_count (files_verdict n k alphaFile graphFile) (vectors_in n alphaFile)
