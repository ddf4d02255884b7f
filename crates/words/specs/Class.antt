-- The class of a byte: space, colon, hash, digit, point, minus, star and the rest.
use Rattle.std.specs.Prelude.{ℕ, ◌&&◌, ◌||◌, cond, eqb, leb}
use Rattle.words.specs.declared.Class.{Class}
use Rattle.words.specs.declared.Class.TheVariants.{Space, Colon, Hash, Digit, Point, Minus, Star, Rest}

-- space, tab, CR and LF; ':'; '#'; '0' to '9'; '.'; '-'; '*'
abbrev pub class_of : ℕ → Class
class_of b =
    cond (eqb b 32 || (eqb b 9 || (eqb b 13 || eqb b 10))) Space
    (cond (eqb b 58) Colon
    (cond (eqb b 35) Hash
    (cond (leb 48 b && leb b 57) Digit
    (cond (eqb b 46) Point
    (cond (eqb b 45) Minus
    (cond (eqb b 42) Star Rest))))))
