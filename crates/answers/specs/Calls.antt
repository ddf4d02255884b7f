-- What the exported calls share: the version of the layout, tables as they are handed in, a verdict as number and place.
use Rattle.std.specs.Prelude.{ℕ, List, ℤ, Ok, Err}
use Rattle.tables.specs.Tables.{Tables}
use Rattle.tables.specs.Storage.{tables_in}
use Rattle.refusals.specs.Verdicts.{Verdict}
use Rattle.answers.specs.declared.Refusal.{Refusal}

-- the version of the calls' names, parameters and answers
abbrev pub layout_version : ℕ
layout_version = 6

-- tables that are handed in: states, actions, observations, discount, T, O, R
abbrev pub tables_by : ℕ → ℕ → ℕ → ℕ → List ℕ → List ℕ → List ℤ → Tables
tables_by n m k g = tables_in record { states = n; actions = m; observations = k; discount = g }

-- a verdict as number and place, both 0 where nothing is refused
abbrev pub refusal_of : Verdict → Refusal
refusal_of (Ok u) = record { number = 0; place = 0 }
refusal_of (Err e) = record { number = e.0; place = e.1 }
