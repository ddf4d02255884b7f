-- What is read back of a model that is not refused is not refused either. Assumes nothing.
use Rattle.integers.proofs.Kit.{◌∙◌, subst⁻¹, List, ℕ, ◌≤◌, ℤ, nat_abs}
use Rattle.integers.proofs.Sums.{total-cong}
use Rattle.tables.specs.declared.Counts.{Counts}
use Rattle.tables.specs.Limits.{one, max_reward}
use Rattle.tables.specs.Model.{Valid}
use Rattle.tables.specs.Storage.{model_in}
use Rattle.rereading.specs.Rereading.{SameNumbers}

pub same-valid : (c : Counts) (t t' o o' : List ℕ) (r r' : List ℤ) → SameNumbers (model_in c t o r) (model_in c t' o' r') → Valid (model_in c t o r)
    → Valid (model_in c t' o' r')
same-valid c t t' o o' r r' e v = record {
  some_states = v.some_states;
  few_states = v.few_states;
  some_actions = v.some_actions;
  few_actions = v.few_actions;
  some_observations = v.some_observations;
  few_observations = v.few_observations;
  discount_limit = v.discount_limit;
  transition_limit = λ a la s ls s' lx. subst⁻¹ (λ (p : ℕ). p ≤ one) (e.transitions a la s ls s' lx) (v.transition_limit a la s ls s' lx);
  observation_limit = λ a la s' ls x lx. subst⁻¹ (λ (p : ℕ). p ≤ one) (e.observations a la s' ls x lx) (v.observation_limit a la s' ls x lx);
  reward_limit = λ a la s ls. subst⁻¹ (λ (z : ℤ). nat_abs z ≤ max_reward) (e.rewards a la s ls) (v.reward_limit a la s ls);
  transition_row = λ a la s ls. total-cong c.states _ _ (e.transitions a la s ls) ∙ v.transition_row a la s ls;
  observation_row = λ a la s' ls. total-cong c.observations _ _ (e.observations a la s' ls) ∙ v.observation_row a la s' ls;
}
