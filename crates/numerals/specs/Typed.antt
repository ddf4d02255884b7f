-- Numbers as the rules let people type them, part by part, and what each is: said without a look at how a word is read.
use Rattle.std.specs.Prelude.{ℕ, ◌+◌, ◌-◌, ◌*◌, ◌^◌, ◌≤◌, true, false, List, [], ◌∷◌, ◌++◌, length, Option, Some}
use Rattle.numerals.specs.Numeral.{scaled, most_power, exponent_mark}

-- digits, and their bytes
abbrev pub Digits : List ℕ → Type 0
Digits [] = Unit
Digits (d ∷ ds) = (d ≤ 9) × Digits ds

abbrev pub bytes : List ℕ → List ℕ
bytes [] = []
bytes (d ∷ ds) = (48 + d) ∷ bytes ds

-- the number that they write, after digits worth v
abbrev pub written : ℕ → List ℕ → ℕ
written v [] = v
written v (d ∷ ds) = written (v * 10 + d) ds

-- no exponent, or an `e`, an optional minus and one digit
pub data Exponent : Type 0 where
  none : Exponent
  up down : ℕ → Exponent

abbrev pub ending : Exponent → List ℕ
ending none = []
ending (up p) = exponent_mark ∷ ((48 + p) ∷ [])
ending (down p) = exponent_mark ∷ (45 ∷ ((48 + p) ∷ []))

abbrev pub Few : Exponent → Type 0
Few none = Unit
Few (up p) = p ≤ most_power
Few (down p) = p ≤ most_power

abbrev pub raised_by : Exponent → ℕ → Option ℕ
raised_by none v = Some v
raised_by (up p) v = scaled false p v
raised_by (down p) v = scaled true p v

-- a whole part and an exponent; a whole part, a point, decimals and an exponent
abbrev pub unpointed_word : List ℕ → Exponent → List ℕ
unpointed_word ds e = bytes ds ++ ending e

abbrev pub pointed_word : List ℕ → List ℕ → Exponent → List ℕ
pointed_word ds fs e = bytes ds ++ (46 ∷ (bytes fs ++ ending e))

-- what they are, in units of which 10 ^ places make 1
abbrev pub unpointed_amount : ℕ → List ℕ → Exponent → Option ℕ
unpointed_amount places ds e = raised_by e (written 0 ds * 10 ^ places)

abbrev pub pointed_amount : ℕ → List ℕ → List ℕ → Exponent → Option ℕ
pointed_amount places ds fs e = raised_by e (written 0 ds * 10 ^ places + written 0 fs * 10 ^ (places - length fs))
