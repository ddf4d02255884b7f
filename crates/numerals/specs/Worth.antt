-- What a number is worth, as a fraction: its digits as one number, over 10 for each of its decimals, times or over 10 to its exponent.
use Rattle.std.specs.Prelude.{ℕ, ◌+◌, ◌-◌, ◌*◌, ◌^◌, ◌≡◌, cond, List, [], ◌∷◌, eqb}
use Rattle.words.specs.Class.{class_of}
use Rattle.numerals.specs.Numeral.{is_digit, is_point, digits, value, negative, unsigned, exponent_mark}

-- the digits before an exponent as one number, after digits worth v; a point is passed over
unfoldable pub mantissa : ℕ → List ℕ → ℕ
mantissa v [] = v
mantissa v (b ∷ w) = cond (is_digit (class_of b)) (mantissa (v * 10 + (b - 48)) w) (cond (is_point (class_of b)) (mantissa v w) v)

-- how many digits follow the point
unfoldable pub decimals : List ℕ → ℕ
decimals [] = 0
decimals (b ∷ w) = cond (is_digit (class_of b)) (decimals w) (cond (is_point (class_of b)) (digits w) 0)

-- what follows the `e`
unfoldable pub power_part : List ℕ → List ℕ
power_part [] = []
power_part (b ∷ w) = cond (eqb b exponent_mark) w (power_part w)

-- the power of 10 that multiplies the number, and the one that divides it
abbrev pub power_up : List ℕ → ℕ
power_up e = cond (negative e) 0 (value 0 (unsigned e))

abbrev pub power_down : List ℕ → ℕ
power_down e = cond (negative e) (value 0 (unsigned e)) 0

-- the numerator and the denominator of what a word writes
abbrev pub numerator : List ℕ → ℕ
numerator w = mantissa 0 w * 10 ^ power_up (power_part w)

abbrev pub denominator : List ℕ → ℕ
denominator w = 10 ^ decimals w * 10 ^ power_down (power_part w)

-- v units, of which 10 ^ places make 1, are that fraction
abbrev pub IsWorth : ℕ → List ℕ → ℕ → Type 0
IsWorth places w v = v * denominator w ≡ numerator w * 10 ^ places
