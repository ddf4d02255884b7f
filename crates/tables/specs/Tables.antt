-- Tables as definitions speak of them: the counts and the discount, and what lies in the slices that are lent for T, O and R.
use Rattle.std.specs.Prelude.{ℕ, List, ℤ}

pub record Tables : Type 0 where
  pub states : ℕ
  pub actions : ℕ
  pub observations : ℕ
  pub discount : ℕ
  pub transition : List ℕ
  pub observation : List ℕ
  pub reward : List ℤ
