-- Numbers as a word writes them: a whole part, a point and decimals, an exponent.
use Rattle.std.specs.Prelude.{ℕ, suc, ◌+◌, ◌-◌, ◌*◌, ◌^◌, ◌/◌, ◌%◌, Bool, true, false, ◌&&◌, ◌||◌, cond, List, [], ◌∷◌, length, drop, ℤ, pos, neg_ℤ, eqb, leb}
use Rattle.std.specs.Prelude.{Option, Some, None}
use Rattle.words.specs.Class.{class_of}
use Rattle.words.specs.declared.Class.{Class}
use Rattle.words.specs.declared.Class.TheVariants.{Space, Colon, Hash, Digit, Point, Minus, Star, Rest}
use Rattle.numerals.specs.declared.Form.{Form}

-- ---- forms: so many digits, then so many decimals; in a loose form one of the two may be missing, and an exponent may follow

-- counts and indices
abbrev pub count_form : Form
count_form = record { digits = 2; places = 0; loose = false }

-- probabilities and the discount, in thousandths
abbrev pub probability_form : Form
probability_form = record { digits = 1; places = 3; loose = true }

-- start numbers, in hundredths
abbrev pub start_form : Form
start_form = record { digits = 1; places = 2; loose = true }

-- rewards, in ticks
abbrev pub reward_form : Form
reward_form = record { digits = 4; places = 2; loose = true }

-- numbers of a solver's vectors, in units of 10 ^ -12
abbrev pub decimal_form : Form
decimal_form = record { digits = 6; places = 12; loose = false }

-- numbers of a plan graph's nodes
abbrev pub node_form : Form
node_form = record { digits = 3; places = 0; loose = false }

-- ---- digits

abbrev pub is_digit : Class → Bool
is_digit Digit = true
is_digit Space = false
is_digit Colon = false
is_digit Hash = false
is_digit Point = false
is_digit Minus = false
is_digit Star = false
is_digit Rest = false

-- how many digits a word begins with
unfoldable pub digits : List ℕ → ℕ
digits [] = 0
digits (b ∷ w) = cond (is_digit (class_of b)) (suc (digits w)) 0

-- the number that they write, after digits worth v
unfoldable pub value : ℕ → List ℕ → ℕ
value v [] = v
value v (b ∷ w) = cond (is_digit (class_of b)) (value (v * 10 + (b - 48)) w) v

-- ---- an optional minus

abbrev pub is_minus : Class → Bool
is_minus Minus = true
is_minus Space = false
is_minus Colon = false
is_minus Hash = false
is_minus Digit = false
is_minus Point = false
is_minus Star = false
is_minus Rest = false

abbrev pub negative : List ℕ → Bool
negative [] = false
negative (b ∷ w) = is_minus (class_of b)

-- the word without it
abbrev pub unsigned : List ℕ → List ℕ
unsigned w = cond (negative w) (drop 1 w) w

abbrev pub signed : Bool → ℕ → ℤ
signed true v = neg_ℤ (pos v)
signed false v = pos v

-- ---- an exponent

abbrev pub fitting : Bool → Option ℕ → Option ℕ
fitting true a = a
fitting false a = None

-- 10 to the power p times v; with a minus v over it, if that is whole
abbrev pub scaled : Bool → ℕ → ℕ → Option ℕ
scaled false p v = Some (v * 10 ^ p)
scaled true p v = fitting (eqb (v % 10 ^ p) 0) (Some (v / 10 ^ p))

abbrev pub most_power : ℕ
most_power = 3

-- one digit, up to the most
abbrev pub is_power : List ℕ → Bool
is_power w = eqb (length w) 1 && (eqb (digits w) 1 && leb (value 0 w) most_power)

-- v, and after its `e` an optional minus and a power of ten
unfoldable pub powered : ℕ → List ℕ → Option ℕ
powered v w = fitting (is_power (unsigned w)) (scaled (negative w) (value 0 (unsigned w)) v)

-- "e"
abbrev pub exponent_mark : ℕ
exponent_mark = 101

-- after v units: nothing, or in a loose form an exponent
unfoldable pub exponent : Bool → ℕ → List ℕ → Option ℕ
exponent loose v [] = Some v
exponent loose v (b ∷ w) = fitting (loose && eqb b exponent_mark) (powered v w)

-- ---- a number of a form, in units of which 10 ^ places make 1

abbrev pub is_point : Class → Bool
is_point Point = true
is_point Space = false
is_point Colon = false
is_point Hash = false
is_point Digit = false
is_point Minus = false
is_point Star = false
is_point Rest = false

abbrev pub pointed : List ℕ → Bool
pointed [] = false
pointed (b ∷ w) = is_point (class_of b)

-- n digits before a point and k after it: neither part is missing, or in a loose form not both
abbrev pub enough : Bool → ℕ → ℕ → Bool
enough false n k = leb 1 n && leb 1 k
enough true n k = leb 1 n || leb 1 k

-- after a point, and before it n digits worth `whole` units
unfoldable pub after_point : Form → ℕ → ℕ → List ℕ → Option ℕ
after_point form n whole w =
    fitting (leb (digits w) form.places && enough form.loose n (digits w))
    (exponent form.loose (whole + value 0 w * 10 ^ (form.places - digits w)) (drop (digits w) w))

-- after n digits worth `whole` units
unfoldable pub fraction : Form → ℕ → ℕ → List ℕ → Option ℕ
fraction form n whole w = cond (pointed w) (after_point form n whole (drop 1 w)) (fitting (leb 1 n) (exponent form.loose whole w))

-- a word that has the form
unfoldable pub amount_of : Form → List ℕ → Option ℕ
amount_of form w =
    fitting (leb (digits w) form.digits) (fraction form (digits w) (value 0 w * 10 ^ form.places) (drop (digits w) w))
