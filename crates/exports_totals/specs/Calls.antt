-- What the calls for totals and worths answer.
use Rattle.std.specs.Prelude.{ℕ, ◌≡◌, List, ℤ, pos, Result, Ok, Err}
use Rattle.tables.specs.Tables.{Tables}
use Rattle.refusals.specs.declared.Refusal.{Refusal}
use Rattle.runs.specs.declared.Bounds.{Bounds}
use Rattle.runs.specs.Demand3.{Claim, TotalsHold}
use Rattle.intervals.specs.declared.Enclosing.{Enclosing}
use Rattle.intervals.specs.Claim.{WithinHolds}
use Rattle.exports_totals.specs.declared.Totals.{Totals}
use Rattle.exports_totals.specs.declared.TotalsWithin.{TotalsWithin}
use Rattle.exports_totals.specs.declared.Worth.{Worth}

-- number and place are 0 and 0 where totals are given, and every other part is 0 where they are refused
abbrev pub totals_by : Result Bounds Refusal → Totals
totals_by (Ok b) = record {
  number = 0;
  place = 0;
  lower = b.lower;
  upper = b.upper;
  gap = b.gap;
  action = b.action.0;
  sawtooth = b.sawtooth;
  informed = b.informed;
}
totals_by (Err e) = record {
  number = e.0;
  place = e.1;
  lower = pos 0;
  upper = pos 0;
  gap = pos 0;
  action = 0;
  sawtooth = pos 0;
  informed = pos 0;
}

abbrev pub totals_within_by : Result Enclosing Refusal → TotalsWithin
totals_within_by (Ok w) = record { number = 0; place = 0; lower = w.lower; upper = w.upper }
totals_within_by (Err e) = record { number = e.0; place = e.1; lower = pos 0; upper = pos 0 }

abbrev pub worth_by : Result ℤ Refusal → Worth
worth_by (Ok ticks) = record { number = 0; place = 0; ticks = ticks }
worth_by (Err e) = record { number = e.0; place = e.1; ticks = pos 0 }

-- ---- demand 3 over exported calls, each handed the slices as the one before left them

-- totals r at a mixture b, with tables m in force, at level t with claim c
pub record Brackets (m : Tables) (t : ℕ) (c : Claim) (b : List ℕ) (r : Totals) : Type 0 where
  pub bounds : Result Bounds Refusal
  pub answer : r ≡ totals_by bounds
  pub holds : TotalsHold m t c b bounds

-- totals r within ranges, with tables m in force, at level t with claim c
pub record Encloses (m : Tables) (t : ℕ) (c : Claim) (lows highs : List ℕ) (r : TotalsWithin) : Type 0 where
  pub within : Result Enclosing Refusal
  pub answer : r ≡ totals_within_by within
  pub holds : WithinHolds m t c lows highs within
