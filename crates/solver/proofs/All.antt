-- All the vectors or nodes of a file, one after the other. Assumes nothing.
--
--   counted-all   as a loop reads them for the first time
--   GoesOn        as a loop reads them once more: stands_read, standing-fine, standing_on
use Rattle.std.specs.Prelude.{Some, Result, Ok, Err, IsOk}
use Rattle.integers.proofs.Kit.{◌≡◌, ◌∙◌, refl, ap, sym, List, [], ◌∷◌, ℕ, ◌≤◌, ◌<◌, ◌+◌, suc, ◌-◌, zero, arith, zero-add, add-one, length}
use Rattle.integers.proofs.Kit.{get_or, drop, take}
use lib.Seq.{drop-cons}
use Rattle.refusals.specs.declared.Refusal.{Refusal}
use Rattle.refusals.specs.Verdicts.{Fine}
use Rattle.refusals.proofs.Refusals.{never}
use Rattle.words.specs.declared.Word.{Word}
use Rattle.words.specs.Words.{Words, word, end, words_in, between, told}
use Rattle.grammar.specs.declared.Read.{Read}
use Rattle.grammar.specs.Grammar.{Answer, got, refused, ◌then◌, unless_end}
use Rattle.alphas.specs.Alphas.{words_verdict}
use Rattle.alphas.specs.Steps.{Gave}
use Rattle.solver.specs.Files.{all_from, all_in, read_list, with_count}
use Rattle.solver.specs.Steps.{Counted, ends, stops, goes, judged_from, GoesOn}

module _ {A : Type 0} (one : ℕ → Words → Answer A) where
  -- the one numbered i, and those after it
  abbrev onward : ℕ → ℕ → A → Words → Answer (List A)
  onward fuel i x ws = all_from one fuel (i + 1) ws then λ xs ws. got (x ∷ xs) ws

  all_end : (fuel i : ℕ) (ws : Words) (p : ℕ) → ws ≡ end p → all_from one fuel i ws ≡ got [] ws
  unfolding all_from
  all_end zero i ws p e = ap (λ (x : Words). unless_end x (got [] ws) (refused 0 0)) e
  all_end (suc fuel) i ws p e = ap (λ (x : Words). unless_end x (got [] ws) (one i ws then onward fuel i)) e

  all_more : (fuel i : ℕ) (ws : Words) (p : ℕ) (w : List ℕ) (rest : Words) → 0 < fuel → ws ≡ word p w rest
      → all_from one fuel i ws ≡ (one i ws then onward (fuel - 1) i)
  unfolding all_from
  all_more zero i ws p w rest h e = absurd (omega arith)
  all_more (suc fuel) i ws p w rest h e =
      let z : fuel ≡ suc fuel - 1 = omega arith in
      ap (λ (x : Words). unless_end x (got [] ws) (one i ws then onward fuel i)) e ∙ ap (λ (f : ℕ). one i ws then onward f i) z

  -- ---- read for the first time

  abbrev whole : List ℕ → Result ℕ Refusal
  whole file = with_count (words_verdict (all_in one file)) (length (read_list (all_in one file)))

  judged-whole : (a : Answer (List A)) → judged_from 0 a ≡ with_count (words_verdict a) (length (read_list a))
  judged-whole (got xs ws) = ap (λ (n : ℕ). Ok n) (zero-add (length xs))
  judged-whole (refused number place) = refl

  judged-next : (i : ℕ) (x : A) (a : Answer (List A)) → judged_from i (a then λ xs ws. got (x ∷ xs) ws) ≡ judged_from (i + 1) a
  judged-next i x (got xs ws) = let e : i + suc (length xs) ≡ (i + 1) + length xs = omega arith in ap (λ (n : ℕ). Ok n) e
  judged-next i x (refused number place) = refl

  judged-refused : (i : ℕ) {e : Refusal} (a : Answer A) (k : A → Words → Answer (List A)) → Err e ≡ words_verdict a → Err e ≡ judged_from i (a then k)
  judged-refused i (got x ws) k h = never h
  judged-refused i {e} (refused number place) k h = cc

  module _ {B : Type 0} (f : B → A) (file : List ℕ) where
    -- what is read of the one numbered i
    abbrev reads : ℕ → ℕ → Result (Read B) Refusal → Type 0
    reads i at r = Gave f file at r (one i (words_in between file at))

    at-word : (fuel i at : ℕ) (w : Word) → 0 < fuel → words_in between file at ≡ told file (Some w)
        → all_from one fuel i (words_in between file at) ≡ (one i (words_in between file at) then onward (fuel - 1) i)
    at-word fuel i at w h e =
        all_more fuel i (words_in between file at) w.start (take (w.stop - w.start) (drop w.start file)) (words_in between file w.stop) h e

    module _ {P : ℕ → ℕ → Result (Read B) Refusal → Type 0} where
      counted_on : {i at : ℕ} {r : Result ℕ Refusal} → Counted file P i at r → ((i at : ℕ) (r : Result (Read B) Refusal) → P i at r → reads i at r)
          → (fuel : ℕ) → length file < fuel + at → at ≤ length file → r ≡ judged_from i (all_from one fuel i (words_in between file at))
      counted_on (ends i at e) reading fuel h k =
          let z : i ≡ i + length {A = A} [] = omega arith in
          ap (λ (n : ℕ). Ok n) z ∙ sym (ap (judged_from i) (all_end fuel i (words_in between file at) (length file) e))
      counted_on (stops i at w e q p) reading fuel h k =
          judged-refused i (one i (words_in between file at)) (onward (fuel - 1) i) (reading i at (Err e) p)
          ∙ sym (ap (judged_from i) (at-word fuel i at w (omega arith) q))
      counted_on (goes i at w x r q p c) reading fuel h k =
          let (is, past) = reading i at (Ok x) p in
          counted_on c reading (fuel - 1) (omega (arith, past)) past.1
          ∙ sym (judged-next i (f x.value) (all_from one (fuel - 1) (i + 1) (words_in between file x.next)))
          ∙ ap (λ (a : Answer A). judged_from i (a then onward (fuel - 1) i)) is
          ∙ sym (ap (judged_from i) (at-word fuel i at w (omega arith) q))

      pub counted-all : {r : Result ℕ Refusal} → Counted file P 0 0 r → ((i at : ℕ) (r : Result (Read B) Refusal) → P i at r → reads i at r) → r ≡ whole file
      unfolding all_in
      counted-all c reading = counted_on c reading (length file + 1) (omega arith) (omega arith) ∙ judged-whole (all_in one file)

  -- ---- read once more

  -- the first of all that are left
  record First (i : ℕ) (ws : Words) (x : A) (xs : List A) (last : Words) : Type 0 where
    fuel : ℕ
    rest : Words
    is : one i ws ≡ got x rest
    left : all_from one fuel (i + 1) rest ≡ got xs last

  nothing : {X : Type 0} {x : A} {xs : List A} {ws last : Words} → got [] ws ≡ got (x ∷ xs) last → X
  nothing {x = x} {xs} e = absurd (let z : 0 ≡ suc (length xs) = ap (λ (a : Answer (List A)). length (read_list a)) e in omega arith)

  no_answer : {B X : Type 0} {number place : ℕ} {x : B} {ws : Words} → refused number place ≡ got x ws → X
  no_answer e = never (ap words_verdict e)

  module _ (i : ℕ) (ws : Words) (x : A) (xs : List A) (last : Words) where
    first-left : (fuel : ℕ) (y : A) (rest : Words) (a : Answer (List A)) → one i ws ≡ got y rest → all_from one fuel (i + 1) rest ≡ a
        → (a then λ xs ws. got (y ∷ xs) ws) ≡ got (x ∷ xs) last → First i ws x xs last
    first-left fuel y rest (got ys stop) p q e = record {
      fuel = fuel;
      rest = rest;
      is = p ∙ ap (λ (z : A). got z rest) (ap (λ (a : Answer (List A)). get_or (read_list a) 0 y) e);
      left = q ∙ ap (λ (a : Answer (List A)). tail_of a) e;
    }
      where
        tail_of : Answer (List A) → Answer (List A)
        tail_of (got zs ws) = got (drop 1 zs) ws
        tail_of (refused number place) = refused number place
    first-left fuel y rest (refused number place) p q e = no_answer e

    first_one : (fuel : ℕ) (a : Answer A) → one i ws ≡ a → (a then onward fuel i) ≡ got (x ∷ xs) last → First i ws x xs last
    first_one fuel (got y rest) p e = first-left fuel y rest (all_from one fuel (i + 1) rest) p refl e
    first_one fuel (refused number place) p e = no_answer e

  first_of : (fuel i : ℕ) (ws : Words) (x : A) (xs : List A) (last : Words) → all_from one fuel i ws ≡ got (x ∷ xs) last → First i ws x xs last
  unfolding all_from
  first_of zero i (end p) x xs last e = nothing e
  first_of zero i (word p w rest) x xs last e = no_answer e
  first_of (suc fuel) i (end p) x xs last e = nothing e
  first_of (suc fuel) i (word p w rest) x xs last e = first_one i (word p w rest) x xs last fuel (one i (word p w rest)) refl e

  stands : (file : List ℕ) (all : List A) (last : Words) → all_in one file ≡ got all last → GoesOn one file all 0 0
  unfolding all_in
  stands file all last e = record { inside = omega arith; fuel = length file + 1; last = last; left = e }

  -- a file that is not refused
  pub stands_read : (file : List ℕ) → words_verdict (all_in one file) ≡ Fine → GoesOn one file (read_list (all_in one file)) 0 0
  stands_read file e = by (all_in one file) refl e
    where
      by : (a : Answer (List A)) → all_in one file ≡ a → words_verdict a ≡ Fine → GoesOn one file (read_list a) 0 0
      by (got xs last) q e = stands file xs last q
      by (refused number place) q e = never e

  module _ {B : Type 0} (f : B → A) (file : List ℕ) (all : List A) {i at : ℕ} (standing : GoesOn one file all i at) (h : i < length all) where
    first : (d : A) → First i (words_in between file at) (get_or all i d) (drop (suc i) all) standing.last
    first d =
        first_of standing.fuel i (words_in between file at) (get_or all i d) (drop (suc i) all) standing.last
        (standing.left ∙ ap (λ (l : List A). got l standing.last) (drop-cons all i d h))

    -- the one numbered i is read
    pub standing-fine : (d : A) (r : Result (Read B) Refusal) → Gave f file at r (one i (words_in between file at)) → IsOk r
    standing-fine d (Ok x) gave = refl
    standing-fine d (Err e) gave = never (gave ∙ ap words_verdict (first d).is)

    -- as what, and where the next stands
    pub record Onward (x : Read B) : Type 0 where
      pub same : (d : A) → f x.value ≡ get_or all i d
      pub next : GoesOn one file all (i + 1) x.next

    pub standing_on : (x : Read B) → Gave f file at (Ok x) (one i (words_in between file at)) → Onward x
    standing_on x (e, (_, inside)) = record {
      same = λ d. ap value_of (e ∙ (first d).is);
      next = record {
        inside = inside;
        fuel = (first (f x.value)).fuel;
        last = standing.last;
        left = ap (all_from one (first (f x.value)).fuel (i + 1)) (ap rest_of (e ∙ (first (f x.value)).is)) ∙ (first (f x.value)).left
            ∙ ap (λ (k : ℕ). got (drop k all) standing.last) (sym (add-one i));
      };
    }
      where
        value_of : Answer A → A
        value_of (got y ws) = y
        value_of (refused number place) = f x.value

        rest_of : Answer A → Words
        rest_of (got y ws) = ws
        rest_of (refused number place) = end 0
