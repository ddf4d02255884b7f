-- What the code's answers say.
--
-- An answer has an x where words were read: f x is the value that they are read as, and reading goes on at next x.
use Rattle.std.specs.Prelude.{ℕ, ◌-◌, ◌≤◌, ◌<◌, ◌≡◌, List, length, take, drop, Option, Some, None, Result, Ok, Err}
use Rattle.refusals.specs.declared.Refusal.{Refusal}
use Rattle.words.specs.declared.Word.{Word}
use Rattle.words.specs.Words.{words_in, between}
use Rattle.grammar.specs.declared.Read.{Read}
use Rattle.grammar.specs.Grammar.{Answer, got, refused, Finding, fits, unfit, outside}

abbrev pub answer_of : {X A : Type 0} → (X → A) → (X → ℕ) → List ℕ → Result X Refusal → Answer A
answer_of f next s (Ok x) = got (f x) (words_in between s (next x))
answer_of f next s (Err e) = refused e.0 e.1

-- ---- words read from an offset

-- x is as P says, and reading goes on past `at`
abbrev pub Onward : {X : Type 0} → (X → Type 0) → (X → ℕ) → List ℕ → ℕ → Result X Refusal → Type 0
Onward P next s at (Ok x) = P x × ((at < next x) × (next x ≤ length s))
Onward P next s at (Err e) = Unit

pub record Told {X A : Type 0} (P : X → Type 0) (f : X → A) (next : X → ℕ) (s : List ℕ) (at : ℕ) (r : Result X Refusal) (a : Answer A) : Type 0 where
  pub is : answer_of f next s r ≡ a
  pub onward : Onward P next s at r

-- with a value, of which P holds
abbrev pub Tells : {B A : Type 0} → (B → Type 0) → (B → A) → List ℕ → ℕ → Result (Read B) Refusal → Answer A → Type 0
Tells P f s at r a = Told (λ x. P x.value) (λ x. f x.value) (λ x. x.next) s at r a

-- with a number that is at most `most`
abbrev pub Reads : List ℕ → ℕ → ℕ → Result (Read ℕ) Refusal → Answer ℕ → Type 0
Reads s at most r a = Tells (λ v. v ≤ most) (λ v. v) s at r a

-- with no value: words that are given
abbrev pub GoesPast : List ℕ → ℕ → Result ℕ Refusal → Answer ℕ → Type 0
GoesPast s at r a = Told (λ _. Unit) (λ _. 0) (λ next. next) s at r a

-- ---- a word that was found

-- x is as P says, and reading goes on where the word stops
abbrev pub Follows : {X : Type 0} → (X → Type 0) → (X → ℕ) → Option Word → Result X Refusal → Type 0
Follows P next w (Err e) = Unit
Follows P next (Some w) (Ok x) = P x × (next x ≡ w.stop)
Follows P next None (Ok x) = ⊥

pub record Taken {X : Type 0} (P : X → Type 0) (f next : X → ℕ) (s : List ℕ) (w : Option Word) (r : Result X Refusal) (a : Answer ℕ) : Type 0 where
  pub is : answer_of f next s r ≡ a
  pub follows : Follows P next w r

abbrev pub Takes : List ℕ → Option Word → ℕ → Result (Read ℕ) Refusal → Answer ℕ → Type 0
Takes s w most r a = Taken (λ x. x.value ≤ most) (λ x. x.value) (λ x. x.next) s w r a

abbrev pub Passes : List ℕ → Option Word → Result ℕ Refusal → Answer ℕ → Type 0
Passes s w r a = Taken (λ _. Unit) (λ _. 0) (λ next. next) s w r a

-- what is answered for a word from start to stop
abbrev pub found : ℕ → ℕ → Finding → Result (Read ℕ) Refusal
found start stop (fits v) = Ok (record { value = v; next = stop })
found start stop unfit = Err (record { 0 = 2; 1 = start })
found start stop outside = Err (record { 0 = 3; 1 = start })

-- the bytes of that word
abbrev pub bytes_of : List ℕ → ℕ → ℕ → List ℕ
bytes_of s start stop = take (stop - start) (drop start s)
