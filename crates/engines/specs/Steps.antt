-- What both engines need: T within the limits, and a list, where one is there, that says it.
use Rattle.std.specs.Prelude.{ℕ, List}
use Rattle.columns.specs.Steps.{Listed}
use Rattle.sums.specs.Steps.{TransitionsFit}

pub record EngineFits (n : ℕ) (cells list : List ℕ) (a : ℕ) : Type 0 where
  pub transitions : TransitionsFit n cells a
  pub listed : Listed n cells list a
