-- What the arm that a match on a class took says of the class. Assumes nothing.
use Prim.Native.Nat.{ℕ}
use mathlib.Core.Path.{◌≡◌, refl, subst, subst⁻¹}
use mathlib.Core.List.{List, [], ◌∷◌}
use mathlib.Core.Logic.{inl, inr}
use denote.Enum.Declared.{tag_of}
use types.Run.{OneOf}
use lib.ListN.{get_or}
use Rattle.words.specs.declared.Class.{Class}
use Rattle.words.specs.declared.Class.TheVariants.{Space, Colon, Hash, Digit, Point, Minus, Star, Rest}
use Rattle.words.specs.contracts.Class.{the_type}

-- what holds at each key of an arm holds where the arm was taken
abbrev pub Each : (ℕ → Type 0) → List ℕ → Type 0
Each P [] = Unit
Each P (k ∷ ks) = P k × Each P ks

at_key : (P : ℕ → Type 0) (ks : List ℕ) (n : ℕ) → Each P ks → OneOf ks n → P n
at_key P [] n e h = absurd h
at_key P (k ∷ []) n e h = subst⁻¹ P h e.0
at_key P (k ∷ (j ∷ ks)) n e (inl h) = subst⁻¹ P h e.0
at_key P (k ∷ (j ∷ ks)) n e (inr h) = at_key P (j ∷ ks) n e.1 h

-- the class with this key
abbrev class_at : ℕ → Class
class_at n = get_or (Space ∷ Colon ∷ Hash ∷ Digit ∷ Point ∷ Minus ∷ Star ∷ []) n Rest

class-at : (k : Class) → k ≡ class_at (tag_of the_type k)
class-at Space = refl
class-at Colon = refl
class-at Hash = refl
class-at Digit = refl
class-at Point = refl
class-at Minus = refl
class-at Star = refl
class-at Rest = refl

-- of a class that is known as k and was matched as r
pub by-keys : (P : Class → Type 0) (ks : List ℕ) {r k : Class} → r ≡ k → Each (λ n. P (class_at n)) ks → OneOf ks (tag_of the_type r) → P k
by-keys P ks {r} {k} e each h = subst P e (subst⁻¹ P (class-at r) (at_key (λ n. P (class_at n)) ks (tag_of the_type r) each h))
