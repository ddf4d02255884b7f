-- Table and list give the same: what is promised of the list of an accepted model's transitions.
--
--   model_by m list   the model with the T that a list says
--   Engines m list   what holds of a list that is taken
--   ListsHold m      the claim
use Rattle.std.specs.Prelude.{ℕ, ◌<◌, ◌≡◌, true, List, length, ℤ}
use Rattle.tables.specs.Tables.{Tables}
use Rattle.refusals.specs.Verdicts.{Fine}
use Rattle.tables.specs.Model.{Model, successor, backup}
use Rattle.tables.specs.Storage.{model_of}
use Rattle.tables.specs.Judged.{tables_verdict}
use Rattle.columns.specs.Columns.{turned_back, list_verdict, listed_of, list_holds}
use Rattle.plans.specs.Level.{Level, backup_at}
use Rattle.levels.specs.Storage.{LentLevel, Lent}
use Rattle.levels.specs.Judged.{offer_over, offer_up_to}

abbrev pub model_by : Tables → List ℕ → Model
model_by m list = record {
  states = m.states;
  actions = m.actions;
  observations = m.observations;
  discount = m.discount;
  transition = turned_back m.states list;
  observation = (model_of m).observation;
  reward = (model_of m).reward;
}

-- a slice that is handed in with tables and holds: turned back it is their T; successor weights, backups of vectors, and those of corners and points by it
-- are the model's; and every level that is offered is accepted, or refused by the same number at the same place
pub record Engines (m : Tables) (list : List ℕ) : Type 0 where
  pub turned : (a : ℕ) → a < m.actions → (s : ℕ) → s < m.states → (s' : ℕ) → s' < m.states
      → turned_back m.states list s a s' ≡ (model_of m).transition s a s'
  pub successors : (p : ℕ → ℕ) (a : ℕ) → a < m.actions → (o s' : ℕ) → s' < m.states
      → successor (model_by m list) p a o s' ≡ successor (model_of m) p a o s'
  pub backups : (next : ℕ → ℕ → ℤ) (a : ℕ) → a < m.actions → (s : ℕ) → s < m.states
      → backup (model_by m list) a next s ≡ backup (model_of m) a next s
  pub values : (L : Level) (p : ℕ → ℕ) (a : ℕ) → a < m.actions → backup_at (model_by m list) L p a ≡ backup_at (model_of m) L p a
  pub verdicts : (most : ℕ) (x : Lent) (l : LentLevel) → offer_over (model_by m list) most m x l ≡ offer_up_to most m x l

-- the whole claim: of a list that is made, and of any that is taken
pub record ListsHold (m : Tables) : Type 0 where
  pub made : (slice : List ℕ) → list_verdict m slice ≡ Fine → list_holds m (listed_of m slice) ≡ true
  pub taken : tables_verdict m ≡ Fine → (list : List ℕ) → 0 < length list → list_holds m list ≡ true → Engines m list
