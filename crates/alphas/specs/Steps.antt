-- What the code's steps ask and say.
use Rattle.std.specs.Prelude.{ℕ, ◌≤◌, ◌<◌, ◌≡◌, List, length, take, Result, Ok, Err}
use Rattle.refusals.specs.declared.Refusal.{Refusal}
use Rattle.words.specs.Words.{words_in, between}
use Rattle.grammar.specs.declared.Read.{Read}
use Rattle.grammar.specs.Grammar.{Answer, got}
use Rattle.grammar.specs.Steps.{answer_of}
use Rattle.alphas.specs.declared.Alpha.{Alpha as AlphaCells}
use Rattle.alphas.specs.declared.Node.{Node}
use Rattle.alphas.specs.Alphas.{Alpha, PolicyNode, words_verdict}

-- ---- several words

-- reading goes on at `from` or later
abbrev pub Since : {A : Type 0} → List ℕ → ℕ → Result (Read A) Refusal → Type 0
Since s from (Ok x) = (from ≤ x.next) × (x.next ≤ length s)
Since s from (Err e) = Unit

-- the first `count` cells were read from an offset on
pub record GivesList {A : Type 0} (count : ℕ) (s : List ℕ) (from : ℕ) (r : Result (Read (List A)) Refusal) (a : Answer (List A)) : Type 0 where
  pub is : answer_of (λ x. take count x.value) (λ x. x.next) s r ≡ a
  pub since : Since s from r

-- ---- a vector, a node

-- what the refusal of a word becomes
abbrev pub unread : Refusal → Refusal
unread e = record { 0 = 19; 1 = e.1 }

-- x was read from `at` on, as f says, and reading goes on after it; or the answer is refused
abbrev pub Gave : {B A : Type 0} → (B → A) → List ℕ → ℕ → Result (Read B) Refusal → Answer A → Type 0
Gave f s at (Ok x) a = (got (f x.value) (words_in between s x.next) ≡ a) × ((at < x.next) × (x.next ≤ length s))
Gave f s at (Err e) a = Err e ≡ words_verdict a

-- the vector, of n entries, and the node, of k observations, that the code answers
abbrev pub alpha_of : ℕ → AlphaCells → Alpha
alpha_of n r = record { action = r.action; ticks = take n r.ticks }

abbrev pub node_of : ℕ → Node → PolicyNode
node_of k r = record { action = r.action; next = take k r.next }
