-- The table of accepted tables is within the limits of its list; and what a list that is handed in says. Assumes nothing.
use Rattle.integers.proofs.Kit.{◌≡◌, sym, true, false, Bool, ◌||◌, ◌&&◌, List, ℕ, ◌<◌, arith, length, eqb, ne_eqb, false≢true}
use Rattle.integers.proofs.Searches.{and-true}
use Rattle.tables.specs.Tables.{Tables}
use Rattle.refusals.specs.Verdicts.{Fine, is_fine}
use Rattle.tables.specs.Model.{Valid}
use Rattle.tables.specs.Storage.{model_of, transition_in}
use Rattle.tables.specs.Judged.{tables_verdict}
use Rattle.tables.proofs.Accepted.{tables-valid, tables-stored}
use Rattle.columns.specs.Columns.{is_list, list_holds}
use Rattle.columns.specs.Steps.{TableFits, Listed}
use Rattle.columns.proofs.Columns.{list-says}

pub table_fits : (m : Tables) → tables_verdict m ≡ Fine → TableFits m.states m.actions m.transition
table_fits m e =
    let v = tables-valid m e in record {
      some_states = v.some_states;
      few_states = v.few_states;
      few_actions = v.few_actions;
      stored = (tables-stored m e).transitions;
      chance = v.transition_limit;
    }

-- a slice that is handed in with valid tables, and is not refused, has their list where it is not empty
pub list-listed : (m : Tables) (list : List ℕ) → Valid (model_of m) → list_holds m list ≡ true → (a : ℕ) → a < m.actions
    → Listed m.states m.transition list a
list-listed m list v e a l some =
    list-says m.states m.actions m.transition list
    (there (eqb (length list) 0) (ne_eqb (length list) 0 (λ q. let n : ⊥ = omega arith in n)) e) a l (v.transition_limit a l)
  where
    there : (b : Bool) → b ≡ false
        → (b || (is_fine (tables_verdict m) && is_list m.states m.actions (transition_in m.states m.transition) list)) ≡ true
        → is_list m.states m.actions (transition_in m.states m.transition) list ≡ true
    there true d h = absurd (false≢true (sym d))
    there false d h = (and-true (is_fine (tables_verdict m)) _ h).1
