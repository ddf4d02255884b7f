use Rattle.validity.proofs.Prelude.{◌≡◌, sym, true, arith, limits_hold, model_of, Few}
use mathlib.Core.Bool.{◌&&◌}
use Rattle.integers.proofs.Searches.{and-true}
use Rattle.tables.specs.Tables.{Tables}
use Rattle.tables.specs.Judged.{tables_stored}
use Rattle.tables.proofs.Fitting.{limits-few}
use Rattle.validity.proofs.judge_tables.Goals as goal

-- tables within the limits have few rows, and few cells to each
few-here : (m : Tables) → (limits_hold (model_of m) && tables_stored m) ≡ true → Few m.actions m.states m.observations
few-here m e = limits-few _ (and-true (limits_hold (model_of m)) _ e).0

pub rows_total-requires-clause-m_le_max_actions : goal.rows_total-requires-clause-m_le_max_actions
rows_total-requires-clause-m_le_max_actions c =
    let f = few-here _ (sym c.if-not-limits_hold.ensures) in (f.actions, (f.states, f.states))

pub rows_total-requires-2-clause-m_le_max_actions : goal.rows_total-requires-2-clause-m_le_max_actions
rows_total-requires-2-clause-m_le_max_actions c =
    let f = few-here _ (sym c.if-not-limits_hold.ensures) in (f.actions, (f.states, omega (arith, f.observations)))
