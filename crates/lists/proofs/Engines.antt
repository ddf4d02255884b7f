-- Table and list give the same. Assumes nothing.
--
-- In order: a list that is made is taken; sums over a list, and offers tested over it; the claim.
use Rattle.integers.proofs.Kit.{◌≡◌, true, List, ℕ, ◌≤◌, ◌<◌, arith, le-leb, eqb, eq-eqb, leb, leb-true, length, get_or, or-true}
use Rattle.integers.specs.Cells.{laid}
use Rattle.integers.proofs.Lists.{laid-at, laid-length}
use Rattle.integers.proofs.Searches.{and_is, at_every}
use Rattle.tables.specs.Tables.{Tables}
use Rattle.refusals.specs.Verdicts.{Fine, unless}
use Rattle.tables.specs.Storage.{model_of, transition_in}
use Rattle.tables.specs.Judged.{tables_verdict}
use Rattle.refusals.proofs.Refusals.{before-fine, unless-fine}
use Rattle.tables.proofs.Accepted.{tables-valid}
use Rattle.columns.specs.Columns.{list_of, is_list, turned_back, list_verdict, listed_of, list_holds}
use Rattle.columns.specs.Steps.{Says}
use Rattle.lists.specs.Engines.{Engines, ListsHold}
use Rattle.lists.proofs.Fitting.{list-listed}
use Rattle.lists.proofs.Offers.{successor-same, backup-same, backup_at-same, offer-same}

-- ---- a list that is made is taken: its words are those of the list
module _ (m : Tables) (slice : List ℕ) where
  abbrev made : List ℕ
  made = list_of m.states m.actions (transition_in m.states m.transition)

  abbrev laid_over : List ℕ
  laid_over = laid (length made) (λ i. get_or made i 0) slice

  laid-list : length made ≤ length slice → is_list m.states m.actions (transition_in m.states m.transition) laid_over ≡ true
  unfolding is_list
  laid-list room =
      and_is (le-leb (length made) (length laid_over) (omega (arith, laid-length (length made) (λ i. get_or made i 0) slice room)))
      (at_every (length made) _ (λ i l. eq-eqb _ _ (laid-at (length made) (λ i. get_or made i 0) slice i 0 l)))

  laid-holds : tables_verdict m ≡ Fine → length made ≤ length slice → list_holds m laid_over ≡ true
  laid-holds fine room = rw (fine, laid-list room) (or-true (eqb (length laid_over) 0))

  made_holds : list_verdict m slice ≡ Fine → list_holds m (listed_of m slice) ≡ true
  unfolding list_verdict listed_of
  made_holds e =
      let fine = before-fine (tables_verdict m) (unless (leb (length made) (length slice)) 9 0) e in
      rw e (laid-holds fine.0 (leb-true _ _ (unless-fine (leb (length made) (length slice)) 9 0 fine.1)))

-- A list that holds says T (`list-listed`), so that sums over what it says are sums over T, and so are the tests of an offer. Qed.
module _ (m : Tables) (fine : tables_verdict m ≡ Fine) (list : List ℕ) (some : 0 < length list) (holds : list_holds m list ≡ true) where
  says : (a : ℕ) → a < m.actions → Says m.states m.transition list a
  says a l = list-listed m list (tables-valid m fine) holds a l some

  turned : (a : ℕ) → a < m.actions → (s : ℕ) → s < m.states → (s' : ℕ) → s' < m.states
      → turned_back m.states list s a s' ≡ (model_of m).transition s a s'
  turned a l = (says a l).turned

  engines : Engines m list
  engines = record {
    turned = turned;
    successors = successor-same m list turned;
    backups = backup-same m list turned;
    values = backup_at-same m list turned;
    verdicts = offer-same m list turned;
  }

pub lists-hold : (m : Tables) → ListsHold m
lists-hold m = record { made = made_holds m; taken = engines m }
