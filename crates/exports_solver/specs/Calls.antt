-- What the call on a solver's files answers.
use Rattle.std.specs.Prelude.{ℕ, Result, Ok, Err}
use Rattle.refusals.specs.declared.Refusal.{Refusal}
use Rattle.exports_solver.specs.declared.Adoption.{Adoption}

-- a refusal's number and place, or the number of vectors; 0 for what it has not
abbrev pub adoption_by : Result ℕ Refusal → Adoption
adoption_by (Ok vectors) = record { number = 0; place = 0; vectors = vectors }
adoption_by (Err e) = record { number = e.0; place = e.1; vectors = 0 }
