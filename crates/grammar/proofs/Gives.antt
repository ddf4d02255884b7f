-- What holds of the value that is read, if one is. Assumes nothing.
use Rattle.integers.proofs.Kit.{◌≡◌, sym, subst, List, ℕ, ◌≤◌}
use Rattle.words.specs.Words.{Words, word, end}
use Rattle.numerals.specs.declared.Form.{Form}
use Rattle.numerals.specs.Numeral.{amount_of, unsigned}
use Rattle.grammar.specs.Grammar.{Answer, got, refused, ◌then◌, Finding, fits, unfit, outside, answered, one_word, limited, number, magnitude, key_named}
use Rattle.grammar.specs.Grammar.{field}
use Rattle.grammar.proofs.Laws.{OfValue, limited-within, limited-below}

abbrev pub Gives : {A : Type 0} → (A → Type 0) → Answer A → Type 0
Gives P (got x ws) = P x
Gives P (refused n p) = Unit

pub gives_then : {A B : Type 0} (P : A → Type 0) (Q : B → Type 0) (a : Answer A) (k : A → Words → Answer B) → Gives P a
    → ((x : A) (ws : Words) → P x → Gives Q (k x ws))
    → Gives Q (a then k)
gives_then P Q (got x ws) k g h = h x ws g
gives_then P Q (refused n p) k g h = tt

-- where nothing is asked of the part before
pub gives_after : {A B : Type 0} (Q : B → Type 0) (a : Answer A) (k : A → Words → Answer B) → ((x : A) (ws : Words) → Gives Q (k x ws)) → Gives Q (a then k)
gives_after Q (got x ws) k h = h x ws
gives_after Q (refused n p) k h = tt

-- of a value that was given
pub given-value : {A : Type 0} (P : A → Type 0) {x : A} {ws : Words} {a : Answer A} → Gives P a → got x ws ≡ a → P x
given-value P g e = subst (Gives P) (sym e) g

answered-gives : (P : ℕ → Type 0) (at : ℕ) (rest : Words) (f : Finding) → OfValue P f → Gives P (answered at rest f)
answered-gives P at rest (fits x) p = p
answered-gives P at rest unfit p = tt
answered-gives P at rest outside p = tt

one-gives : (P : ℕ → Type 0) (find : List ℕ → Finding) (ws : Words) → ((w : List ℕ) → OfValue P (find w)) → Gives P (one_word find ws)
one-gives P find (word at w rest) h = answered-gives P at rest (find w) (h w)
one-gives P find (end at) h = tt

pub number-gives : (form : Form) (least most : ℕ) (ws : Words) → Gives (λ v. (least ≤ v) × (v ≤ most)) (number form least most ws)
unfolding number
number-gives form least most ws =
    one-gives (λ v. (least ≤ v) × (v ≤ most)) (λ w. limited least most (amount_of form w)) ws (λ w. limited-within least most (amount_of form w))

pub magnitude-gives : (form : Form) (most : ℕ) (ws : Words) → Gives (λ v. v ≤ most) (magnitude form most ws)
unfolding magnitude
magnitude-gives form most ws =
    one-gives (λ v. v ≤ most) (λ w. limited 0 most (amount_of form (unsigned w))) ws (λ w. limited-below 0 most (amount_of form (unsigned w)))

pub field-gives : (name : List ℕ) (form : Form) (least most : ℕ) (ws : Words) → Gives (λ v. (least ≤ v) × (v ≤ most)) (field name form least most ws)
unfolding field
field-gives name form least most ws =
    gives_after (λ v. (least ≤ v) × (v ≤ most)) (key_named name ws) (λ _ ws. number form least most ws) (λ _ ws. number-gives form least most ws)
