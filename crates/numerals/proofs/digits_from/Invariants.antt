use Rattle.std.proofs.Common.{◌-◌, ◌≡◌, ◌+◌, ◌^◌, ◌≤◌, ◌<◌, length, ℕ, List, drop}
use Rattle.numerals.specs.Numeral.{digits, value}
use Rattle.numerals.specs.Steps.{most_read}
use Rattle.numerals.proofs.digits_from.Given as goal

-- v is what the digits up to `at` write, of those before `stop`
pub record Reading (w : List ℕ) (from most stop v at : ℕ) : Type 0 where
  pub bound : (stop ≤ length w) × ((stop ≤ from + most) × (most ≤ most_read))
  pub cut : stop < length w → stop ≡ from + most
  pub up : from ≤ at
  pub low : at ≤ stop
  pub count : at + digits (drop at w) ≡ from + digits (drop from w)
  pub worth : value v (drop at w) ≡ value 0 (drop from w)
  pub few : v < 10 ^ (at - from)

abbrev pub invariant-loop-at : goal.invariant-loop-at
invariant-loop-at l = Reading l.w l.from l.most l.stop l.v l.at
