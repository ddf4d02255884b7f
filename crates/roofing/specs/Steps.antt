-- Least values, from what each action allows.
use Rattle.std.specs.Prelude.{ℕ, List, get_or, ℤ, pos}
use Rattle.integers.specs.Whole.{ceil_div}
use Rattle.integers.specs.Search.{first_largest}
use Rattle.tables.specs.Limits.{K}

-- the least whole number that meets every action's inequality, from what each allows
abbrev pub least_from : List ℤ → ℕ → ℤ
least_from backups a = ceil_div (get_or backups a (pos 0)) K

abbrev pub least_roof : ℕ → List ℤ → ℤ
least_roof actions backups = least_from backups (first_largest actions (least_from backups))
