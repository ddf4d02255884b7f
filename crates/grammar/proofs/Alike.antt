-- What one form of number reads, a wider one reads alike. Assumes nothing.
use Rattle.std.specs.Prelude.{Option, Some, None}
use Rattle.integers.proofs.Kit.{◌≡◌, refl, subst⁻¹, List, ℕ}
use Rattle.words.specs.Words.{Words, word, end}
use Rattle.numerals.specs.declared.Form.{Form}
use Rattle.numerals.specs.Numeral.{amount_of, unsigned, signed}
use Rattle.numerals.proofs.Before.{Keeps}
use Rattle.grammar.specs.Grammar.{Answer, got, refused, ◌then◌, answered, limited, number, magnitude, minus, signed_number, key_named, field}

-- where the first is a value, the second is the same
abbrev pub Alike : {A : Type 0} → Answer A → Answer A → Type 0
Alike (got x ws) b = b ≡ got x ws
Alike (refused n p) b = Unit

pub alike_same : {A : Type 0} (a : Answer A) → Alike a a
alike_same (got x ws) = refl
alike_same (refused n p) = tt

pub alike_then : {A B : Type 0} (a b : Answer A) (k l : A → Words → Answer B) → Alike a b → ((x : A) (ws : Words) → Alike (k x ws) (l x ws))
    → Alike (a then k) (b then l)
alike_then (got x ws) b k l e h = subst⁻¹ (λ (b : Answer _). Alike (k x ws) (b then l)) e (h x ws)
alike_then (refused n p) b k l e h = tt

-- words that are numbers of the first form are the same numbers of the second
abbrev pub Wider : Form → Form → Type 0
Wider f g = (w : List ℕ) → Keeps (amount_of f w) (amount_of g w)

limited-alike : (least most at : ℕ) (rest : Words) (a b : Option ℕ) → Keeps a b
    → Alike (answered at rest (limited least most a)) (answered at rest (limited least most b))
limited-alike least most at rest (Some v) b e =
    subst⁻¹ (λ (b : Option ℕ). Alike (answered at rest (limited least most (Some v))) (answered at rest (limited least most b))) e
    (alike_same (answered at rest (limited least most (Some v))))
limited-alike least most at rest None b e = tt

module _ (f g : Form) (h : Wider f g) where
  pub number-alike : (least most : ℕ) (ws : Words) → Alike (number f least most ws) (number g least most ws)
  unfolding number
  number-alike least most (word at w rest) = limited-alike least most at rest (amount_of f w) (amount_of g w) (h w)
  number-alike least most (end at) = tt

  magnitude-alike : (most : ℕ) (ws : Words) → Alike (magnitude f most ws) (magnitude g most ws)
  unfolding magnitude
  magnitude-alike most (word at w rest) = limited-alike 0 most at rest (amount_of f (unsigned w)) (amount_of g (unsigned w)) (h (unsigned w))
  magnitude-alike most (end at) = tt

  pub signed-alike : (most : ℕ) (ws : Words) → Alike (signed_number f most ws) (signed_number g most ws)
  unfolding signed_number
  signed-alike most ws =
      alike_then (magnitude f most ws) (magnitude g most ws) (λ v rest. got (signed (minus ws) v) rest) (λ v rest. got (signed (minus ws) v) rest)
      (magnitude-alike most ws) (λ v rest. refl)

  pub field_alike : (name : List ℕ) (least most : ℕ) (ws : Words) → Alike (field name f least most ws) (field name g least most ws)
  unfolding field
  field_alike name least most ws =
      alike_then (key_named name ws) (key_named name ws) (λ _ ws. number f least most ws) (λ _ ws. number g least most ws) (alike_same (key_named name ws))
      (λ _ ws. number-alike least most ws)
