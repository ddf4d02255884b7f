-- What a statement does to the cells of a table. Where a cell lies, tables/specs/Storage.antt says.
--
--   marked test v cells     v in each place that passes the test, the other cells as they were
--   among n i test          the test holds for one of those that i stands for: all of n where i is n (a star), else i alone
--
-- proofs/Meaning.antt says the same cell by cell.
use Rattle.std.specs.Prelude.{ℕ, suc, ◌+◌, ◌*◌, Bool, cond, List, [], ◌∷◌, eqb, ℤ}
use Rattle.integers.specs.Search.{some}
use Rattle.tables.specs.Limits.{max_converted, max_actions}
use Rattle.tables.specs.Storage.{row_place, cell_place}

-- the most rows of rewards that are stated in full: one for each action, state left and state reached
abbrev pub max_outcome_rows : ℕ
max_outcome_rows = max_actions * max_converted * max_converted

module _ {A : Type 0} where
  unfoldable pub marked_from : ℕ → (ℕ → Bool) → A → List A → List A
  marked_from at test v [] = []
  marked_from at test v (x ∷ cells) = cond (test at) v x ∷ marked_from (suc at) test v cells

  abbrev pub marked : (ℕ → Bool) → A → List A → List A
  marked test v cells = marked_from 0 test v cells

-- the first of those that i stands for, and how many they are
abbrev pub lowest : ℕ → ℕ → ℕ
lowest n i = cond (eqb i n) 0 i

abbrev pub spread : ℕ → ℕ → ℕ
spread n i = cond (eqb i n) n 1

abbrev pub among : ℕ → ℕ → (ℕ → Bool) → Bool
among n i test = some (spread n i) (λ j. test (lowest n i + j))

-- a table of m blocks of n rows of width w, after p was stated for block a, row s and place x
unfoldable pub stated : ℕ → ℕ → ℕ → ℕ → ℕ → ℕ → ℕ → List ℕ → List ℕ
stated m n w a s x p = marked (λ i. among m a (λ a'. among n s (λ s'. among w x (λ x'. eqb i (cell_place n w a' s' x'))))) p

-- the rewards of m actions and n states, after r was stated for action a and state s
unfoldable pub rewarded : ℕ → ℕ → ℕ → ℕ → ℤ → List ℤ → List ℤ
rewarded m n a s r = marked (λ i. among m a (λ a'. among n s (λ s'. eqb i (row_place n a' s')))) r

-- where the reward of action a, state s, state reached s' and observation o lies
abbrev pub outcome_place : ℕ → ℕ → ℕ → ℕ → ℕ → ℕ → ℕ
outcome_place n k a s s' o = row_place k (cell_place n n a s s') o

-- the rewards of m actions, n states, n states reached and k observations, after r was stated for a, s, s' and o
unfoldable pub outcomed : ℕ → ℕ → ℕ → ℕ → ℕ → ℕ → ℕ → ℤ → List ℤ → List ℤ
outcomed m n k a s s' o r =
    marked (λ i. among m a (λ a'. among n s (λ s₁. among n s' (λ s₂. among k o (λ o'. eqb i (outcome_place n k a' s₁ s₂ o')))))) r
