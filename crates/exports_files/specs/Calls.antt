-- What the calls on files answer: a refusal's number and place, or what was read or written; 0 for what it has not.
use Rattle.std.specs.Prelude.{ℕ, Result, Ok, Err}
use Rattle.refusals.specs.declared.Refusal.{Refusal}
use Rattle.tables.specs.declared.Counts.{Counts}
use Rattle.exports_files.specs.declared.Reading.{Reading}
use Rattle.exports_files.specs.declared.Conversion.{Conversion}

abbrev pub reading_by : Result Counts Refusal → Reading
reading_by (Ok c) =
    record { number = 0; place = 0; states = c.states; actions = c.actions; observations = c.observations; discount = c.discount }
reading_by (Err e) = record { number = e.0; place = e.1; states = 0; actions = 0; observations = 0; discount = 0 }

abbrev pub conversion_by : Result ℕ Refusal → Conversion
conversion_by (Ok length) = record { number = 0; place = 0; length = length }
conversion_by (Err e) = record { number = e.0; place = e.1; length = 0 }
