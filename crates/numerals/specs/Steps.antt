-- What the code's steps ask and say.
use Rattle.std.specs.Prelude.{ℕ, ◌+◌, ◌-◌, ◌*◌, ◌^◌, ◌≤◌, ◌<◌, ◌≡◌, Bool, true, false, List, length, drop}
use Rattle.numerals.specs.declared.Form.{Form}
use Rattle.numerals.specs.Numeral.{digits, value}

-- ---- forms whose numbers have room in 64 bits: those of a loose one, times the power of ten that an exponent says

-- digits of one part that are read
abbrev pub most_read : ℕ
most_read = 12

abbrev pub most_digits : Bool → ℕ
most_digits true = 4
most_digits false = 6

abbrev pub most_places : Bool → ℕ
most_places true = 3
most_places false = most_read

abbrev pub most_whole : Bool → ℕ
most_whole loose = 10 ^ most_digits loose * 10 ^ most_places loose

-- the units of a number before its exponent
abbrev pub most_units : Bool → ℕ
most_units loose = most_whole loose + 10 ^ most_places loose

pub record Short (form : Form) : Type 0 where
  pub few_digits : form.digits ≤ most_digits form.loose
  pub few_places : form.places ≤ most_places form.loose

-- the digits of w from an offset on, up to `end`, write v: all of them, or the first `most`
pub record WrittenDigits (w : List ℕ) (from most end v : ℕ) : Type 0 where
  pub up : from ≤ end
  pub low : end ≤ length w
  pub few : end ≤ from + most
  pub count : end + digits (drop end w) ≡ from + digits (drop from w)
  pub cut : 0 < digits (drop end w) → end ≡ from + most
  pub worth : value v (drop end w) ≡ value 0 (drop from w)
  pub small : v < 10 ^ (end - from)
