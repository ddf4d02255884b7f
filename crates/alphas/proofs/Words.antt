-- Several words after each other, and what is handed back of a word that is refused. Assumes nothing.
--
--   Filled          the first i of several are read into the first cells: filled_none, filled_more, filled-back
--   decimal-tells   a decimal, rounded down to ticks
--   Unread          a word whose refusal becomes 19: still-read, gave-back
use Rattle.std.specs.Prelude.{Result, Ok, Err, MatchResult, IsErrAnd}
use Rattle.integers.proofs.Kit.{◌≡◌, ◌∙◌, refl, ap, sym, subst, List, [], ◌∷◌, ℕ, ◌≤◌, ◌<◌, ◌+◌, suc, zero, arith, add-one, dec_lt, length}
use Rattle.integers.proofs.Kit.{set, take, ℤ}
use mathlib.Core.List.{◌++◌}
use lib.ListN.{length-set}
use lib.Seq.{take-suc-set}
use Rattle.integers.specs.Whole.{floor_div}
use Rattle.refusals.specs.declared.Refusal.{Refusal}
use Rattle.words.specs.Words.{Words, words_in, between}
use Rattle.numerals.specs.Numeral.{decimal_form}
use Rattle.grammar.specs.declared.Read.{Read}
use Rattle.grammar.specs.Grammar.{Answer, got, refused, ◌then◌, signed_number}
use Rattle.grammar.specs.Steps.{answer_of, Told}
use Rattle.alphas.specs.Alphas.{most_decimal, per_tick, decimal, several, words_verdict}
use Rattle.alphas.specs.Steps.{GivesList, unread, Gave}

-- ---- several words

module _ {A : Type 0} (one : Words → Answer A) where
  -- a word that is refused is the answer of all
  several-refused : (count i number place : ℕ) (ws : Words) → i ≤ count → several one i ws ≡ refused number place
      → several one count ws ≡ refused number place
  unfolding several
  several-refused zero i number place ws h e = let z : i ≡ 0 = omega arith in subst (λ (k : ℕ). several one k ws ≡ refused number place) z e
  several-refused (suc count) i number place ws h e = by (dec_lt count i) (λ k. several-refused count i number place ws k e)
    where
      by : Dec (count < i) → (i ≤ count → several one count ws ≡ refused number place)
          → (several one count ws then λ xs ws. one ws then λ x ws. got (xs ++ (x ∷ [])) ws) ≡ refused number place
      by (yes l) r = let z : i ≡ suc count = omega arith in subst (λ (k : ℕ). several one k ws ≡ refused number place) z e
      by (no l) r = ap (λ (a : Answer (List A)). a then λ xs ws. one ws then λ x ws. got (xs ++ (x ∷ [])) ws) (r (omega arith))

  module _ (size : ℕ) (file : List ℕ) (from count : ℕ) where
    -- the first i of `count` are in the first of `size` cells, and the next is looked for at `at`
    pub record Filled (cells : List A) (at i : ℕ) : Type 0 where
      pub low : i ≤ count
      pub few : count ≤ size
      pub long : length cells ≡ size
      pub inside : at ≤ length file
      pub since : from ≤ at
      pub so_far : several one i (words_in between file from) ≡ got (take i cells) (words_in between file at)

    pub filled_none : (cells : List A) → from ≤ length file → count ≤ size → length cells ≡ size → Filled cells from 0
    unfolding several
    filled_none cells h few long = record { low = omega arith; few = few; long = long; inside = h; since = omega arith; so_far = refl }

    module _ {cells : List A} {at i : ℕ} (filled : Filled cells at i) where
      next_one : several one (i + 1) (words_in between file from) ≡ (one (words_in between file at) then λ x ws. got (take i cells ++ (x ∷ [])) ws)
      unfolding several
      next_one = rw add-one (ap (λ (a : Answer (List A)). a then λ xs ws. one ws then λ x ws. got (xs ++ (x ∷ [])) ws) filled.so_far)

      module _ {X : Type 0} {P : X → Type 0} {f : X → A} {next : X → ℕ} where
        -- the next is read, or refused
        pub filled_more : {x : X} {y : A} → Told P f next file at (Ok x) (one (words_in between file at)) → y ≡ f x → i < count
            → Filled (set cells i y) (next x) (i + 1)
        filled_more {x} {y} t e h = record {
          low = omega arith;
          few = filled.few;
          long = length-set cells i y ∙ filled.long;
          inside = t.onward.1.1;
          since = omega (arith, filled.since, t.onward.1);
          so_far = next_one ∙ sym (ap (λ (a : Answer A). a then λ x ws. got (take i cells ++ (x ∷ [])) ws) t.is)
              ∙ ap (λ (z : A). got (take i cells ++ (z ∷ [])) (words_in between file (next x))) (sym e)
              ∙ sym (ap (λ (xs : List A). got xs (words_in between file (next x)))
              (rw add-one (take-suc-set cells i y (omega (arith, filled.few, filled.long)))));
        }

        pub filled-back : {e : Refusal} {r : Result (Read (List A)) Refusal} → Told P f next file at (Err e) (one (words_in between file at)) → r ≡ Err e
            → i < count → GivesList count file from r (several one count (words_in between file from))
        filled-back {e} t q h =
            rw q (record {
              is = sym (several-refused count (i + 1) e.0 e.1 (words_in between file from) (omega arith)
                  (next_one ∙ sym (ap (λ (a : Answer A). a then λ x ws. got (take i cells ++ (x ∷ [])) ws) t.is)));
              since = tt;
            })

-- ---- a decimal

pub decimal-tells : {P : Read ℤ → Type 0} {s : List ℕ} {at : ℕ} {r : Result (Read ℤ) Refusal}
    → Told P (λ x. x.value) (λ x. x.next) s at r (signed_number decimal_form most_decimal (words_in between s at))
    → Told P (λ x. floor_div x.value per_tick) (λ x. x.next) s at r (decimal (words_in between s at))
unfolding decimal
decimal-tells {s = s} {r = r} t = record {
  is = by r ∙ ap (λ (a : Answer ℤ). a then λ z ws. got (floor_div z per_tick) ws) t.is;
  onward = t.onward;
}
  where
    by : (r : Result (Read ℤ) Refusal) → answer_of (λ (x : Read ℤ). floor_div x.value per_tick) (λ x. x.next) s r
        ≡ (answer_of (λ (x : Read ℤ). x.value) (λ x. x.next) s r then λ z ws. got (floor_div z per_tick) ws)
    by (Ok x) = refl
    by (Err e) = refl

-- ---- a vector, a node

-- r', where the refusal of r becomes 19
abbrev pub Unread : {X : Type 0} → Result X Refusal → Result X Refusal → Type 0
Unread r r' = MatchResult r (λ x. r' ≡ Ok x) (λ e. IsErrAnd r' (λ d. d ≡ unread e))

pub still-read : {X : Type 0} (r : Result X Refusal) {x : X} → Unread r (Ok x) → r ≡ Ok x
still-read (Ok y) m = sym m
still-read (Err d) m = absurd m

-- a word that is refused is the answer of the whole
pub gave-back : {X Y A B : Type 0} (f : X → A) (next : X → ℕ) (g : Y → B) (s : List ℕ) (at : ℕ) (r : Result X Refusal) {e : Refusal}
    (whole : Result (Read Y) Refusal) {a : Answer A} {b : Answer B} (k : A → Words → Answer B) → Unread r (Err e) → whole ≡ Err e
    → answer_of f next s r ≡ a → (a then k) ≡ b → Gave g s at whole b
gave-back {X} {A = A} f next g s at r {e} whole {b = b} k m back h q = rw back (by r m (ap (λ (a : Answer A). a then k) h ∙ q))
  where
    by : (r : Result X Refusal) → Unread r (Err e) → (answer_of f next s r then k) ≡ b → Err e ≡ words_verdict b
    by (Ok x) m h = cc
    by (Err d) m h = ap (λ (e : Refusal). Err e) m ∙ ap words_verdict h
