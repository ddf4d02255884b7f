-- What a function that writes a text asks of a slice, and what it leaves in it.
use Rattle.std.specs.Prelude.{ℕ, ◌+◌, ◌≤◌, ◌≡◌, List, length}
use Rattle.digits.specs.Digits.{text_over}

-- there is room for it
pub record HasRoom (at : ℕ) (text xs : List ℕ) : Type 0 where
  pub fits : at + length text ≤ length xs

-- it is written, and the place behind it is answered
pub record Wrote (at : ℕ) (text xs : List ℕ) (behind : ℕ) (ys : List ℕ) : Type 0 where
  pub place : behind ≡ at + length text
  pub same : ys ≡ text_over at text xs
