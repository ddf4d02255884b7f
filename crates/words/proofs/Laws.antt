-- Laws of the words of a file: the class of a byte, and what the byte at a place does to the words from there on. Assumes nothing.
--
-- In order: the class of a byte, by its tests; what the byte at a place does; at the end of the file; at a byte of the file; a worked example: "T:0 #x" LF
-- ".5".
use Prim.Native.Nat.{ℕ, suc, ◌+◌, ◌-◌, ◌≤◌, ◌<◌}
use mathlib.Core.Path.{◌≡◌, refl, sym, ap, ◌∙◌}
use mathlib.Core.Bool.{Bool, true, false, ◌&&◌, ◌||◌, cond, and-eq-true_iff, true≢false}
use mathlib.Core.List.{List, [], ◌∷◌}
use native.Mathlib.Decide.{dec_le}
use native.Mathlib.Omega.{arith}
use native.Mathlib.Numerals.{add-one}
use borrow.Author.Tests.{eq-eqb, ne_eqb, eqb-true, leb-true}
use lib.Dec.{eqb, leb}
use lib.ListN.{length, get_or, take, drop}
use lib.Seq.{drop-cons, drop-length}
use Rattle.words.specs.declared.Class.{Class}
use Rattle.words.specs.declared.Class.TheVariants.{Space, Colon, Hash, Digit, Point, Minus, Star, Rest}
use Rattle.words.specs.Class.{class_of}
use Rattle.words.specs.Words.{Role, parts, alone, opens, belongs, role_of, Words, word, end, word_run, where_belongs, Mode, between, inside, comment, step}
use Rattle.words.specs.Words.{words_of, words_in}
use Rattle.words.specs.Steps.{is_end, Run}

-- ---- the class of a byte, by its tests
test : (P : Class → Type 0) (t : Bool) (x y : Class) → (t ≡ true → P x) → P y → P (cond t x y)
test P true x y p q = p refl
test P false x y p q = q

low-space : (b : ℕ) → (eqb b 32 || (eqb b 9 || (eqb b 13 || eqb b 10))) ≡ true → b ≤ 32
low-space b e =
    elim (dec_le b 32) [
      | yes l ↦ l
      | no n ↦ absurd (true≢false (sym e ∙ simp (ne_eqb b 32 (omega arith), ne_eqb b 9 (omega arith), ne_eqb b 13 (omega arith), ne_eqb b 10 (omega arith))))
    ]

pub by-class : (P : Class → Type 0) (b : ℕ) → (b ≤ 32 → P Space) → (b ≡ 58 → P Colon) → (b ≡ 35 → P Hash) → (48 ≤ b → b ≤ 57 → P Digit)
    → (b ≡ 46 → P Point) → (b ≡ 45 → P Minus) → (b ≡ 42 → P Star) → P Rest → P (class_of b)
by-class P b space colon hash digit point minus star rest =
    test P (eqb b 32 || (eqb b 9 || (eqb b 13 || eqb b 10))) _ _ (λ e. space (low-space b e))
    (test P _ _ _ (λ e. colon (eqb-true b 58 e))
    (test P _ _ _ (λ e. hash (eqb-true b 35 e))
    (test P (leb 48 b && leb b 57) _ _ (λ e. let both = (and-eq-true_iff (leb 48 b) (leb b 57)).0 e in digit (leb-true 48 b both.0) (leb-true b 57 both.1))
    (test P _ _ _ (λ e. point (eqb-true b 46 e))
    (test P _ _ _ (λ e. minus (eqb-true b 45 e))
    (test P _ _ _ (λ e. star (eqb-true b 42 e)) rest))))))

-- ---- what the byte at a place does
abbrev pub role_in : List ℕ → ℕ → Role
role_in s at = role_of (class_of (get_or s at 0))

-- it, by its value: no space lies above 32
pub by-role : (P : Role → Type 0) (b : ℕ) → (b ≤ 32 → P parts) → (b ≡ 58 → P alone) → (b ≡ 35 → P opens) → P belongs → P (role_of (class_of b))
by-role P b space colon hash other =
    by-class (λ k. P (role_of k)) b space colon hash (λ _ _. other) (λ _. other) (λ _. other) (λ _. other) other

pub no_end : (r : Role) → is_end r ≡ false → r ≡ belongs
no_end parts e = absurd (true≢false e)
no_end alone e = absurd (true≢false e)
no_end opens e = absurd (true≢false e)
no_end belongs e = refl

ends-run : (r : Role) (w : List ℕ) → is_end r ≡ true → where_belongs r w ≡ []
ends-run parts w e = refl
ends-run alone w e = refl
ends-run opens w e = refl
ends-run belongs w e = absurd (true≢false (sym e))

ends-step : (r : Role) (at b : ℕ) (s : List ℕ) (next : Mode → Words) → is_end r ≡ true → step inside r at b s next ≡ step between r at b s next
ends-step parts at b s next e = refl
ends-step alone at b s next e = refl
ends-step opens at b s next e = refl
ends-step belongs at b s next e = absurd (true≢false (sym e))

-- ---- at the end of the file
pub at-end : (m : Mode) (s : List ℕ) (at : ℕ) → at ≡ length s → words_in m s at ≡ end (length s)
unfolding words_in words_of
at-end m s at e = rw (e, drop-length)

pub end-run : (s : List ℕ) (at : ℕ) → at ≡ length s → Run s at at
unfolding word_run
end-run s at e =
    let z : at - at ≡ 0 = omega arith in
    record { up = omega arith; low = omega arith; same = at-end inside s at e ∙ sym (at-end between s at e); bytes = rw (z, e, drop-length) }

-- ---- at a byte of the file
module _ (s : List ℕ) (at : ℕ) (h : at < length s) where
  pub from-here : drop at s ≡ get_or s at 0 ∷ drop (at + 1) s
  from-here = rw (add-one, drop-cons s at 0)

  step_in : (m : Mode) → words_in m s at ≡ step m (role_in s at) at (get_or s at 0) (drop (at + 1) s) (λ m'. words_in m' s (at + 1))
  unfolding words_in words_of
  step_in m = ap (words_of m at) from-here

  -- the same, by its role
  pub step_by : (m : Mode) {r : Role} → role_in s at ≡ r → words_in m s at ≡ step m r at (get_or s at 0) (drop (at + 1) s) (λ m'. words_in m' s (at + 1))
  step_by m e = step_in m ∙ ap (λ (r : Role). step m r at (get_or s at 0) (drop (at + 1) s) (λ m'. words_in m' s (at + 1))) e

  -- a comment goes on past any byte but LF, which ends it and parts words
  pub comment-on : (get_or s at 0 ≡ 10 → ⊥) → words_in comment s at ≡ words_in comment s (at + 1)
  comment-on n = step_in comment ∙ rw (ne_eqb _ _ n)

  pub comment-ends : get_or s at 0 ≡ 10 → words_in comment s at ≡ words_in between s at
  comment-ends e = step_in comment ∙ rw (eq-eqb _ _ e) (sym (step_by between (ap (λ (b : ℕ). role_of (class_of b)) e)))

  -- one byte more in front of those that are taken from the next on
  took : (r : ℕ) → at + 1 ≤ r → get_or s at 0 ∷ take (r - (at + 1)) (drop (at + 1) s) ≡ take (r - at) (drop at s)
  took r l =
      let e : r - at ≡ suc (r - (at + 1)) = omega arith in
      rw (e, from-here)

  -- a byte that belongs to a word lengthens the rest of it
  run_on : role_in s at ≡ belongs → word_run (drop at s) ≡ get_or s at 0 ∷ word_run (drop (at + 1) s)
  unfolding word_run
  run_on e = ap word_run from-here ∙ ap (λ (r : Role). where_belongs r (get_or s at 0 ∷ word_run (drop (at + 1) s))) e

  pub run_more : {r : ℕ} → role_in s at ≡ belongs → Run s (at + 1) r → Run s at r
  run_more {r} e w =
      record {
        up = omega arith;
        low = w.low;
        same = step_by inside e ∙ w.same;
        bytes = run_on e ∙ ap (λ (l : List ℕ). get_or s at 0 ∷ l) w.bytes ∙ took r
            w.up;
      }

  -- any other ends it
  pub run_ends : is_end (role_in s at) ≡ true → Run s at at
  unfolding word_run
  run_ends e =
      let z : at - at ≡ 0 = omega arith in
      record {
        up = omega arith;
        low = omega arith;
        same = step_in inside ∙ ends-step (role_in s at) at (get_or s at 0) (drop (at + 1) s) (λ m'. words_in m' s (at + 1)) e ∙ sym (step_in between);
        bytes = rw z (ap word_run from-here ∙ ends-run (role_in s at) (get_or s at 0 ∷ word_run (drop (at + 1) s)) e);
      }

  -- the word that begins here: a colon, or a byte that belongs to a word and the rest of it
  pub colon-word : role_in s at ≡ alone → words_in between s at ≡ word at (take ((at + 1) - at) (drop at s)) (words_in between s (at + 1))
  colon-word e =
      let z : (at + 1) - (at + 1) ≡ 0 = omega arith in
      step_by between e ∙ ap (λ (w : List ℕ). word at w (words_in between s (at + 1))) (rw z at (took (at + 1) (omega arith)))

  pub plain_word : {r : ℕ} → role_in s at ≡ belongs → Run s (at + 1) r → words_in between s at ≡ word at (take (r - at) (drop at s)) (words_in between s r)
  plain_word {r} e w =
      step_by between e
      ∙ ap (λ (l : List ℕ). word at (get_or s at 0 ∷ l) (words_in inside s (at + 1))) w.bytes
      ∙ ap (λ (l : List ℕ). word at l (words_in inside s (at + 1))) (took r w.up)
      ∙ ap (λ (l : Words). word at (take (r - at) (drop at s)) l) w.same

-- ---- a worked example: "T:0 #x" LF ".5"
pub example : words_of between 0 (84 ∷ 58 ∷ 48 ∷ 32 ∷ 35 ∷ 120 ∷ 10 ∷ 46 ∷ 53 ∷ [])
    ≡ word 0 (84 ∷ []) (word 1 (58 ∷ []) (word 2 (48 ∷ []) (word 7 (46 ∷ 53 ∷ []) (end 9))))
unfolding words_of word_run
example = refl
