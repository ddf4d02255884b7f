-- The number form as it was before a part could be missing and an exponent follow: kept only to say that files that read before read alike.
use Rattle.std.specs.Prelude.{ℕ, ◌+◌, ◌-◌, ◌*◌, ◌^◌, false, ◌&&◌, List, [], ◌∷◌, length, drop, eqb, leb, Option, Some}
use Rattle.words.specs.Class.{class_of}
use Rattle.numerals.specs.declared.Form.{Form}
use Rattle.numerals.specs.Numeral.{digits, value, is_point, fitting}

-- the same form, not loose
abbrev pub plain : Form → Form
plain form = record { digits = form.digits; places = form.places; loose = false }

-- after a whole part worth `whole`, in units of which 10 ^ places make 1: nothing, or a point and one to `places` digits
abbrev pub fraction_before : ℕ → ℕ → List ℕ → Option ℕ
fraction_before places whole [] = Some whole
fraction_before places whole (b ∷ w) =
    fitting (is_point (class_of b) && (eqb (digits w) (length w) && (leb 1 (digits w) && leb (digits w) places)))
    (Some (whole + value 0 w * 10 ^ (places - digits w)))

-- a word that has the form, in units of which 10 ^ places make 1
unfoldable pub amount_before : Form → List ℕ → Option ℕ
amount_before form w =
    fitting (leb 1 (digits w) && leb (digits w) form.digits)
    (fraction_before form.places (value 0 w * 10 ^ form.places) (drop (digits w) w))
