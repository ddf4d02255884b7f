-- 23: counts that are the same, and then tables cell by cell. Assumes nothing.
use Rattle.integers.proofs.Kit.{◌≡◌, refl, true, List, [], ℕ, ◌*◌, get_or, ℤ, eqb, eqb-true}
use Rattle.integers.specs.Search.{every}
use Rattle.integers.proofs.Searches.{and-true}
use Rattle.tables.specs.declared.Counts.{Counts}
use Rattle.tables.specs.Model.{Valid}
use Rattle.tables.specs.Storage.{cell_in, model_in}
use Rattle.tables.specs.Steps.{Stored}
use Rattle.validity.proofs.Packed.{every-cells}
use Rattle.runs.specs.Prices.{counts_same, cells_same, same_plans}
use Rattle.prices.specs.Steps.{Chances}

-- counts that are the same
pub record SameCounts (c new : Counts) : Type 0 where
  pub states : new.states ≡ c.states
  pub actions : new.actions ≡ c.actions
  pub observations : new.observations ≡ c.observations

pub counts-true : (c new : Counts) → counts_same (model_in c [] [] []) (model_in new [] [] []) ≡ true → SameCounts c new
counts-true c new e =
    let n = and-true _ _ e in
    let m = and-true _ _ n.1 in
    record { states = eqb-true _ _ n.0; actions = eqb-true _ _ m.0; observations = eqb-true _ _ (and-true _ _ m.1).0 }

-- tables that lie alike are the same where their cells are, one after the other
pub tables-same : (m n w n' w' : ℕ) (cells new : List ℕ) → n' ≡ n → w' ≡ w
    → every (m * n * w) (λ i. eqb (get_or new i 0) (get_or cells i 0)) ≡ cells_same m n w (cell_in n w cells) (cell_in n' w' new)
tables-same m n w n' w' cells new e f = rw (e, f) (every-cells m n w (λ i. eqb (get_or new i 0) (get_or cells i 0)))

-- rewards are not compared
pub unpriced : (c new : Counts) (T O T' O' : List ℕ) (R R' : List ℤ)
    → same_plans (model_in c T O []) (model_in new T' O' []) ≡ same_plans (model_in c T O R) (model_in new T' O' R')
unfolding same_plans
unpriced c new T O T' O' R R' = refl

pub chances : (c : Counts) (T O : List ℕ) (R : List ℤ) → Valid (model_in c T O R) → Stored c T O R → Chances c T O
chances c T O R v s = record {
  few_states = v.few_states;
  few_actions = v.few_actions;
  few_observations = v.few_observations;
  transitions = s.transitions;
  observed = s.observed;
}

pub chances-same : {c new : Counts} {T O : List ℕ} → SameCounts c new → Chances new T O → Chances c T O
chances-same e h = record {
  few_states = rw e.states at h.few_states;
  few_actions = rw e.actions at h.few_actions;
  few_observations = rw e.observations at h.few_observations;
  transitions = rw (e.actions, e.states) at h.transitions;
  observed = rw (e.actions, e.states, e.observations) at h.observed;
}
