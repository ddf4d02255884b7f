-- Words as numbers, read by the prover. Assumes nothing.
use Rattle.std.specs.Prelude.{Some, None}
use mathlib.Core.Path.{◌≡◌, refl}
use mathlib.Core.List.{[], ◌∷◌}
use Rattle.numerals.specs.Numeral.{count_form, probability_form, start_form, reward_form, decimal_form}
use Rattle.numerals.specs.Numeral.{digits, value, powered, exponent, after_point, fraction, amount_of}

-- "0.5", ".5", "5e-1" and "5.e-1" are 500 thousandths, "1." is 1000, and "1000.00" and "1e3" are 100000 hundredths
pub half : amount_of probability_form (48 ∷ 46 ∷ 53 ∷ []) ≡ Some 500
unfolding amount_of fraction after_point exponent digits value
half = refl

pub no-whole-part : amount_of probability_form (46 ∷ 53 ∷ []) ≡ Some 500
unfolding amount_of fraction after_point exponent digits value
no-whole-part = refl

pub half-by-exponent : amount_of probability_form (53 ∷ 101 ∷ 45 ∷ 49 ∷ []) ≡ Some 500
unfolding amount_of fraction after_point exponent powered digits value
half-by-exponent = refl

pub point-and-exponent : amount_of probability_form (53 ∷ 46 ∷ 101 ∷ 45 ∷ 49 ∷ []) ≡ Some 500
unfolding amount_of fraction after_point exponent powered digits value
point-and-exponent = refl

pub no_fraction : amount_of probability_form (49 ∷ 46 ∷ []) ≡ Some 1000
unfolding amount_of fraction after_point exponent digits value
no_fraction = refl

pub thousand : amount_of reward_form (49 ∷ 48 ∷ 48 ∷ 48 ∷ 46 ∷ 48 ∷ 48 ∷ []) ≡ Some 100000
unfolding amount_of fraction after_point exponent digits value
thousand = refl

pub thousand-by-exponent : amount_of reward_form (49 ∷ 101 ∷ 51 ∷ []) ≡ Some 100000
unfolding amount_of fraction after_point exponent powered digits value
thousand-by-exponent = refl

-- "1e-3" is no whole hundredth, but "0e-3" is 0 of them
pub too_fine : amount_of start_form (49 ∷ 101 ∷ 45 ∷ 51 ∷ []) ≡ None
unfolding amount_of fraction after_point exponent powered digits value
too_fine = refl

pub fine-zero : amount_of start_form (48 ∷ 101 ∷ 45 ∷ 51 ∷ []) ≡ Some 0
unfolding amount_of fraction after_point exponent powered digits value
fine-zero = refl

-- ".", "e1", "1e4", "1e", "1.0000" and "10" are no number of one digit and at most three decimals
pub bare-point : amount_of probability_form (46 ∷ []) ≡ None
unfolding amount_of fraction after_point exponent digits value
bare-point = refl

pub bare-exponent : amount_of probability_form (101 ∷ 49 ∷ []) ≡ None
unfolding amount_of fraction after_point exponent digits value
bare-exponent = refl

pub exponent-four : amount_of probability_form (49 ∷ 101 ∷ 52 ∷ []) ≡ None
unfolding amount_of fraction after_point exponent powered digits value
exponent-four = refl

pub open-exponent : amount_of probability_form (49 ∷ 101 ∷ []) ≡ None
unfolding amount_of fraction after_point exponent powered digits value
open-exponent = refl

pub four-decimals : amount_of probability_form (49 ∷ 46 ∷ 48 ∷ 48 ∷ 48 ∷ 48 ∷ []) ≡ None
unfolding amount_of fraction after_point exponent digits value
four-decimals = refl

pub two_digits : amount_of probability_form (49 ∷ 48 ∷ []) ≡ None
unfolding amount_of fraction after_point exponent digits value
two_digits = refl

-- "999999.999999999999" is the largest decimal of a vector; "1000000" and "0.0000000000001" are none, nor are ".5" and "1e0"
pub largest-decimal : amount_of decimal_form
    (57 ∷ 57 ∷ 57 ∷ 57 ∷ 57 ∷ 57 ∷ 46 ∷ 57 ∷ 57 ∷ 57 ∷ 57 ∷ 57 ∷ 57 ∷ 57 ∷ 57 ∷ 57 ∷ 57 ∷ 57 ∷ 57 ∷ []) ≡ Some 999_999_999_999_999_999
unfolding amount_of fraction after_point exponent digits value
largest-decimal = refl

pub seven-digits : amount_of decimal_form (49 ∷ 48 ∷ 48 ∷ 48 ∷ 48 ∷ 48 ∷ 48 ∷ []) ≡ None
unfolding amount_of fraction after_point exponent digits value
seven-digits = refl

pub thirteen-decimals : amount_of decimal_form (48 ∷ 46 ∷ 48 ∷ 48 ∷ 48 ∷ 48 ∷ 48 ∷ 48 ∷ 48 ∷ 48 ∷ 48 ∷ 48 ∷ 48 ∷ 48 ∷ 49 ∷ []) ≡ None
unfolding amount_of fraction after_point exponent digits value
thirteen-decimals = refl

pub decimal-without-whole-part : amount_of decimal_form (46 ∷ 53 ∷ []) ≡ None
unfolding amount_of fraction after_point exponent digits value
decimal-without-whole-part = refl

pub decimal-by-exponent : amount_of decimal_form (49 ∷ 101 ∷ 48 ∷ []) ≡ None
unfolding amount_of fraction after_point exponent digits value
decimal-by-exponent = refl

-- "1." and "1e0" are no count
pub pointed-count : amount_of count_form (49 ∷ 46 ∷ []) ≡ None
unfolding amount_of fraction after_point exponent digits value
pointed-count = refl

pub count-by-exponent : amount_of count_form (49 ∷ 101 ∷ 48 ∷ []) ≡ None
unfolding amount_of fraction after_point exponent digits value
count-by-exponent = refl
