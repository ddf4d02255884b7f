-- How a reading goes through a text, part by part: it takes the words of the text, and goes on as what is left to read. Assumes nothing.
--
-- In order: texts; a reading goes through a text; a word; a word that is not taken; what follows an answer.
use Rattle.integers.proofs.Kit.{◌≡◌, ◌∙◌, refl, ap, sym, subst, true, false, Bool, cond, List, [], ◌∷◌, ℕ, ◌<◌, ◌+◌, suc, zero, arith, false≢true, length}
use mathlib.Core.List.{◌++◌, append_assoc}
use Rattle.words.specs.Class.{class_of}
use Rattle.words.specs.Words.{Role, parts, alone, opens, belongs, role_of, Words, word, word_run, where_belongs, between, inside, step, words_of}
use Rattle.words.specs.Steps.{is_end}
use Rattle.words.proofs.Laws.{no_end}
use Rattle.grammar.specs.Grammar.{Answer, got, refused, ◌then◌, choose, unless_end, Finding, fits, unfit, answered, one_word}
use Rattle.entries.specs.Entries.{Outcome, upon}
use Rattle.written.specs.Text.{parts_to}

-- ---- texts

-- what follows does not lengthen the word before it
abbrev pub Ends : List ℕ → Type 0
Ends [] = Unit
Ends (b ∷ s) = is_end (role_of (class_of b)) ≡ true

abbrev pub Any : List ℕ → Type 0
Any s = Unit

-- bytes that belong to one word
unfoldable pub plain : List ℕ → Bool
plain [] = true
plain (b ∷ w) = cond (is_end (role_of (class_of b))) false (plain w)

-- ---- a reading goes through a text

pub record Onto {X : Type 0} (f : Words → X) (t : List ℕ) (k : Words → X) (at : ℕ) (s : List ℕ) : Type 0 where
  pub to : ℕ
  pub is : f (words_of between at (t ++ s)) ≡ k (words_of between to s)

-- f of the words from the text t on is k of those after it, whatever follows that E allows
pub record Through {X : Type 0} (E : List ℕ → Type 0) (f : Words → X) (t : List ℕ) (k : Words → X) : Type 0 where
  pub onto : (at : ℕ) (s : List ℕ) → E s → Onto f t k at s

module _ {X : Type 0} {E : List ℕ → Type 0} where
  pub stays : (f : Words → X) → Through E f [] f
  stays f = record { onto = λ at s h. record { to = at; is = refl } }

  -- one text after the other
  pub and_then : {D : List ℕ → Type 0} {f g k : Words → X} {t u : List ℕ} → Through D f t g → Through E g u k → ((s : List ℕ) → E s → D (u ++ s))
      → Through E f (t ++ u) k
  and_then {f = f} {t = t} {u} a b h = record {
    onto = λ at s e.
        let one = a.onto at (u ++ s) (h s e) in
        let two = b.onto one.to s e in
        record { to = two.to; is = ap (λ (l : List ℕ). f (words_of between at l)) (append_assoc t u s) ∙ one.is ∙ two.is };
  }

  -- a space before a text, and a new line after it, part words
  pub past-space : {f k : Words → X} {t : List ℕ} → Through E f t k → Through E f (32 ∷ t) k
  unfolding words_of
  past-space a = record { onto = λ at s e. let r = a.onto (at + 1) s e in record { to = r.to; is = r.is } }

  pub past-line : {f k : Words → X} {t : List ℕ} → Through Ends f t k → Through E f (t ++ (10 ∷ [])) k
  unfolding words_of
  past-line a = and_then a (record { onto = λ at s e. record { to = at + 1; is = refl } }) (λ s e. refl)

  -- parts that are read one after the other
  pub each_part : (n : ℕ) (f : ℕ → Words → X) (t : ℕ → List ℕ) → ((i : ℕ) → i < n → Through E (f i) (t i) (f (suc i)))
      → ((i : ℕ) (s : List ℕ) → E s → E (t i ++ s)) → Through E (f 0) (parts_to n t) (f n)
  unfolding parts_to
  each_part zero f t h e = stays (f 0)
  each_part (suc n) f t h e = and_then (each_part n f t (λ i l. h i (omega arith)) e) (h n (omega arith)) (e n)

-- what may follow several parts may follow none of them
pub each-allows : {E : List ℕ → Type 0} (n : ℕ) (t : ℕ → List ℕ) → ((i : ℕ) (s : List ℕ) → E s → E (t i ++ s)) → (s : List ℕ) → E s → E (parts_to n t ++ s)
unfolding parts_to
each-allows {E} zero t e s h = h
each-allows {E} (suc n) t e s h =
    subst E (sym (append_assoc (parts_to n t) (t n) s)) (each-allows n t e (t n ++ s) (e n s h))

-- what is made of an answer
pub after : {X Y : Type 0} {E : List ℕ → Type 0} {f k : Words → X} {t : List ℕ} (g : X → Y) → Through E f t k → Through E (λ ws. g (f ws)) t (λ ws. g (k ws))
after g a = record { onto = λ at s e. let r = a.onto at s e in record { to = r.to; is = ap g r.is } }

-- ---- a word

ends-run : (s : List ℕ) → Ends s → word_run s ≡ []
unfolding word_run
ends-run [] e = refl
ends-run (b ∷ s) e = by (role_of (class_of b)) e
  where
    by : (r : Role) → is_end r ≡ true → where_belongs r (b ∷ word_run s) ≡ []
    by parts e = refl
    by alone e = refl
    by opens e = refl
    by belongs e = absurd (false≢true e)

ends-inside : (at : ℕ) (s : List ℕ) → Ends s → words_of inside at s ≡ words_of between at s
unfolding words_of
ends-inside at [] e = refl
ends-inside at (b ∷ s) e = by (role_of (class_of b)) e
  where
    by : (r : Role) → is_end r ≡ true → step inside r at b s (λ m. words_of m (at + 1) s) ≡ step between r at b s (λ m. words_of m (at + 1) s)
    by parts e = refl
    by alone e = refl
    by opens e = refl
    by belongs e = absurd (false≢true e)

both-plain : (t u : Bool) → cond t false u ≡ true → (t ≡ false) × (u ≡ true)
both-plain true u e = absurd (false≢true e)
both-plain false u e = (refl, e)

first_plain : (b : ℕ) (w : List ℕ) → plain (b ∷ w) ≡ true → (role_of (class_of b) ≡ belongs) × (plain w ≡ true)
unfolding plain
first_plain b w e = let h = both-plain (is_end (role_of (class_of b))) (plain w) e in (no_end (role_of (class_of b)) h.0, h.1)

rest-run : (w s : List ℕ) → plain w ≡ true → Ends s → word_run (w ++ s) ≡ w
unfolding word_run
rest-run [] s p e = ends-run s e
rest-run (b ∷ w) s p e =
    let h = first_plain b w p in
    ap (λ (r : Role). where_belongs r (b ∷ word_run (w ++ s))) h.0 ∙ ap (λ (l : List ℕ). b ∷ l) (rest-run w s h.1 e)

-- where a word ends that goes on from `at`
abbrev past : ℕ → List ℕ → ℕ
past at [] = at
past at (b ∷ w) = past (at + 1) w

rest-inside : (at : ℕ) (w s : List ℕ) → plain w ≡ true → Ends s → words_of inside at (w ++ s) ≡ words_of between (past at w) s
unfolding words_of
rest-inside at [] s p e = ends-inside at s e
rest-inside at (b ∷ w) s p e =
    let h = first_plain b w p in
    ap (λ (r : Role). step inside r at b (w ++ s) (λ m. words_of m (at + 1) (w ++ s))) h.0 ∙ rest-inside (at + 1) w s h.1 e

pub record IsWord (w : List ℕ) : Type 0 where
  pub plainly : plain w ≡ true
  pub some : 0 < length w

-- as it shows of bytes that are given
pub a_word : (w : List ℕ) → plain w ≡ true → 0 < length w → IsWord w
a_word w p l = record { plainly = p; some = l }

word-there : (at : ℕ) (w s : List ℕ) → IsWord w → Ends s → words_of between at (w ++ s) ≡ word at w (words_of between (past at w) s)
unfolding words_of
word-there at [] s p e = absurd (omega (arith, p.some))
word-there at (b ∷ w) s p e =
    let h = first_plain b w p.plainly in
    ap (λ (r : Role). step between r at b (w ++ s) (λ m. words_of m (at + 1) (w ++ s))) h.0
    ∙ ap (λ (l : List ℕ). word at (b ∷ l) (words_of inside (at + 1) (w ++ s))) (rest-run w s h.1 e)
    ∙ ap (λ (l : Words). word at (b ∷ w) l) (rest-inside (at + 1) w s h.1 e)

-- a word that is taken
pub takes-word : {X : Type 0} (f : Words → X) (w : List ℕ) (k : Words → X) → IsWord w → ((at : ℕ) (rest : Words) → f (word at w rest) ≡ k rest)
    → Through Ends f w k
takes-word f w k p h = record {
  onto = λ at s e. record { to = past at w; is = ap f (word-there at w s p e) ∙ h at (words_of between (past at w) s) };
}

pub one-word : (find : List ℕ → Finding) (w : List ℕ) (v : ℕ) → IsWord w → find w ≡ fits v → Through Ends (one_word find) w (got v)
one-word find w v p f = takes-word (one_word find) w (got v) p (λ at rest. ap (answered at rest) f)

-- ---- a word that is not taken

abbrev pub Failed : {A : Type 0} → Answer A → Type 0
Failed (got v ws) = ⊥
Failed (refused n p) = Unit

pub record Refuses {A : Type 0} (E : List ℕ → Type 0) (f : Words → Answer A) (t : List ℕ) : Type 0 where
  pub fails : (at : ℕ) (s : List ℕ) → E s → Failed (f (words_of between at (t ++ s)))

pub no_word : (find : List ℕ → Finding) (w : List ℕ) → IsWord w → find w ≡ unfit → Refuses Ends (one_word find) w
no_word find w p f = record {
  fails = λ at s e.
      subst Failed (sym (ap (one_word find) (word-there at w s p e) ∙ ap (answered at (words_of between (past at w) s)) f)) tt;
}

module _ {A : Type 0} {E : List ℕ → Type 0} where
  -- by the first words of a text
  pub refuses-first : {D : List ℕ → Type 0} {f : Words → Answer A} (t u : List ℕ) → Refuses D f t → ((s : List ℕ) → E s → D (u ++ s)) → Refuses E f (t ++ u)
  refuses-first {f = f} t u a h = record {
    fails = λ at s e. subst (λ (l : List ℕ). Failed (f (words_of between at l))) (sym (append_assoc t u s)) (a.fails at (u ++ s) (h s e));
  }

  pub refuses-parts : {f : Words → Answer A} (n : ℕ) (t : ℕ → List ℕ) → Refuses E f (t 0) → ((i : ℕ) (s : List ℕ) → E s → E (t i ++ s))
      → Refuses E f (parts_to (suc n) t)
  unfolding parts_to
  refuses-parts zero t a h = a
  refuses-parts (suc n) t a h = refuses-first (parts_to (suc n) t) (t (suc n)) (refuses-parts n t a h) (h (suc n))

  pub refuses-spaced : {f : Words → Answer A} {t : List ℕ} → Refuses E f t → Refuses E f (32 ∷ t)
  unfolding words_of
  refuses-spaced a = record { fails = λ at s e. a.fails (at + 1) s e }

-- ---- what follows an answer

choose-got : {X : Type 0} (a : Answer ℕ) (h : Words → X) (o : X) {v : ℕ} {ws : Words} → a ≡ got v ws → choose a h o ≡ h ws
choose-got a h o e = ap (λ (x : Answer ℕ). choose x h o) e

choose-failed : {X : Type 0} (a : Answer ℕ) (h : Words → X) (o : X) → Failed a → choose a h o ≡ o
choose-failed (got v ws) h o e = absurd e
choose-failed (refused n p) h o e = refl

module _ {E : List ℕ → Type 0} where
  pub then-on : {A B : Type 0} {f : Words → Answer A} {t : List ℕ} {v : A} (h : A → Words → Answer B) → Through E f t (got v)
      → Through E (λ ws. f ws then h) t (h v)
  then-on {A} h a = after (λ (x : Answer A). x then h) a

  pub upon-on : {A C : Type 0} {f : Words → Answer A} {t : List ℕ} {v : A} (cells : C) (h : A → Words → Outcome C) → Through E f t (got v)
      → Through E (λ ws. upon cells (f ws) h) t (h v)
  upon-on {A} cells h a = after (λ (x : Answer A). upon cells x h) a

  pub chosen : {X : Type 0} {f : Words → Answer ℕ} {t : List ℕ} {v : ℕ} (h o : Words → X) → Through E f t (got v)
      → Through E (λ ws. choose (f ws) h (o ws)) t h
  chosen {f = f} {t} h o a = record {
    onto = λ at s e.
        let r = a.onto at s e in
        let ws = words_of between at (t ++ s) in
        record { to = r.to; is = choose-got (f ws) h (o ws) r.is };
  }

  pub not_chosen : {X : Type 0} {f : Words → Answer ℕ} {t : List ℕ} {k : Words → X} (h o : Words → X) → Refuses E f t → Through E o t k
      → Through E (λ ws. choose (f ws) h (o ws)) t k
  not_chosen {f = f} {t} h o fail a = record {
    onto = λ at s e.
        let r = a.onto at s e in
        let ws = words_of between at (t ++ s) in
        record { to = r.to; is = choose-failed (f ws) h (o ws) (fail.fails at s e) ∙ r.is };
  }

  -- a text that begins with a word is not at its end
  pub not-ended : {X : Type 0} {k : Words → X} (b : ℕ) (t : List ℕ) (h o : Words → X) → is_end (role_of (class_of b)) ≡ false → Through E o (b ∷ t) k
      → Through E (λ ws. unless_end ws (h ws) (o ws)) (b ∷ t) k
  unfolding words_of
  not-ended {X} b t h o p a = record {
    onto = λ at s e.
        let r = a.onto at s e in
        let ws = words_of between at (b ∷ (t ++ s)) in
        record {
          to = r.to;
          is = ap (λ (r : Role). unless_end (step between r at b (t ++ s) (λ m. words_of m (at + 1) (t ++ s))) (h ws) (o ws)) (no_end (role_of (class_of b)) p)
              ∙ r.is;
        };
  }
