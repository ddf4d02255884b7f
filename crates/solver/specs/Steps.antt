-- What the code's steps ask and say.
use Rattle.std.specs.Prelude.{ℕ, ◌+◌, ◌≤◌, ◌<◌, ◌≡◌, List, length, drop, Some, None, Result, Ok, Err}
use Rattle.refusals.specs.declared.Refusal.{Refusal}
use Rattle.words.specs.declared.Word.{Word}
use Rattle.words.specs.Words.{Words, words_in, between, told}
use Rattle.grammar.specs.declared.Read.{Read}
use Rattle.grammar.specs.Grammar.{Answer, got, refused}
use Rattle.alphas.specs.Alphas.{alpha, node}
use Rattle.solver.specs.Files.{all_from, alphas, nodes, read_list, vectors_in}

-- ---- a file

-- reading goes on past `at`
abbrev pub Past : {X : Type 0} → List ℕ → ℕ → Result (Read X) Refusal → Type 0
Past s at (Ok x) = (at < x.next) × (x.next ≤ length s)
Past s at (Err e) = Unit

-- one after the other, each as P says, from the one numbered i on, which is read from `at` on: counted, or the first that is refused
pub data Counted {X : Type 0} (s : List ℕ) (P : ℕ → ℕ → Result (Read X) Refusal → Type 0) : ℕ → ℕ → Result ℕ Refusal → Type 0 where
  ends : (i at : ℕ) → words_in between s at ≡ told s None → Counted s P i at (Ok i)
  stops : (i at : ℕ) (w : Word) (e : Refusal) → words_in between s at ≡ told s (Some w) → P i at (Err e) → Counted s P i at (Err e)
  goes : (i at : ℕ) (w : Word) (x : Read X) (r : Result ℕ Refusal) → words_in between s at ≡ told s (Some w) → P i at (Ok x)
      → Counted s P (i + 1) x.next r → Counted s P i at r

-- how a file is judged, after i that were read
abbrev pub judged_from : {A : Type 0} → ℕ → Answer (List A) → Result ℕ Refusal
judged_from i (got xs ws) = Ok (i + length xs)
judged_from i (refused number place) = Err (record { 0 = 19; 1 = place })

-- ---- a file that is read once more

-- the words from `at` on are those of `all` from the one numbered i on
pub record GoesOn {A : Type 0} (one : ℕ → Words → Answer A) (file : List ℕ) (all : List A) (i at : ℕ) : Type 0 where
  pub inside : at ≤ length file
  pub fuel : ℕ
  pub last : Words
  pub left : all_from one fuel i (words_in between file at) ≡ got (drop i all) last

-- both files are read up to the vector v, of `count`: up to p and q
pub record BothAt (n k : ℕ) (alphaFile graphFile : List ℕ) (count v p q : ℕ) : Type 0 where
  pub as_many_vectors : count ≡ vectors_in n alphaFile
  pub as_many_nodes : count ≡ length (read_list (nodes k graphFile))
  pub vectors_stand : GoesOn (λ _. alpha n) alphaFile (read_list (alphas n alphaFile)) v p
  pub nodes_stand : GoesOn (node k) graphFile (read_list (nodes k graphFile)) v q
