-- A file that is not refused by 2 to 6, with expected rewards: they keep the limits. Assumes nothing.
--
-- In order: a model with other rewards is as valid; where each expected reward lies, and its limit; the same in slices.
use Rattle.integers.proofs.Kit.{◌≡◌, subst⁻¹, List, ℕ, ◌≤◌, ◌<◌, ◌*◌, get_or, replicate, length-replicate, mul-le-mul, arith, ℤ, pos, nat_abs}
use Rattle.integers.proofs.Lists.{laid_rows-at, laid_rows-length}
use Rattle.integers.proofs.Sums.{total-part}
use Rattle.tables.specs.declared.Counts.{Counts}
use Rattle.tables.specs.Limits.{max_converted, max_actions, max_reward, start_total}
use Rattle.tables.specs.Model.{Valid}
use Rattle.tables.specs.Storage.{counts_of, model_in, reward_in}
use Rattle.tables.proofs.Fitting.{Sizes, sizes}
use Rattle.drafts.specs.Drafts.{outcome_place}
use Rattle.bodies.specs.Body.{ModelFile}
use Rattle.bodies.specs.Steps.{file_in}
use Rattle.expected.specs.Expected.{expected_ticks}
use Rattle.expected.specs.Steps.{ExpectReady}
use Rattle.expected.proofs.Expected.{expected-within}
use Rattle.written.specs.Steps.{Writable}
use Rattle.conversion.specs.Convert.{expected_rewards}
use Rattle.conversion.specs.Steps.{SoundFile, Long}

-- the model with other rewards within their limits
with-rewards : (c : Counts) (T O : List ℕ) (r r' : List ℤ) → Valid (model_in c T O r)
    → ((a : ℕ) → a < c.actions → (s : ℕ) → s < c.states → nat_abs (reward_in c.states r' s a) ≤ max_reward) → Valid (model_in c T O r')
with-rewards c T O r r' v h = record {
  some_states = v.some_states;
  few_states = v.few_states;
  some_actions = v.some_actions;
  few_actions = v.few_actions;
  some_observations = v.some_observations;
  few_observations = v.few_observations;
  discount_limit = v.discount_limit;
  transition_limit = v.transition_limit;
  observation_limit = v.observation_limit;
  reward_limit = h;
  transition_row = v.transition_row;
  observation_row = v.observation_row;
}

module _ (x : ModelFile) where
  abbrev c : Counts
  c = counts_of x.tables

  abbrev T : List ℕ
  T = x.tables.transition

  abbrev O : List ℕ
  O = x.tables.observation

  -- each lies in its place
  pub expected-at : (a : ℕ) → a < c.actions → (s : ℕ) → s < c.states
      → reward_in c.states (expected_rewards x) s a ≡ expected_ticks c T O x.tables.reward s a
  expected-at a la s ls =
      laid_rows-at c.actions c.states (λ a s. expected_ticks c T O x.tables.reward s a) (replicate (max_actions * max_converted) (pos 0)) a s (pos 0)
      la ls

  module _ (h : SoundFile x) where
    pub expected-valid : Valid (model_in c T O (expected_rewards x))
    expected-valid = with-rewards c T O x.tables.reward (expected_rewards x) h.valid (λ a la s ls.
        subst⁻¹ (λ (z : ℤ). nat_abs z ≤ max_reward) (expected-at a la s ls)
        (expected-within c T O x.tables.reward s a (h.valid.transition_row a la s ls) (λ s' l. h.valid.observation_row a la s' l)
        (λ s' l o b. h.outcomes (outcome_place c.states c.observations a s s' o))))

    pub starts-below : (s : ℕ) → s < c.states → get_or x.start s 0 ≤ start_total
    starts-below s l = omega (arith, h.starts, total-part c.states (λ s. get_or x.start s 0) s l)

-- ---- in slices

module _ (c : Counts) (T O : List ℕ) (cells : List ℤ) (start : List ℕ) (h : SoundFile (file_in c T O cells start)) (l : Long T O cells start)
    (few : c.states ≤ max_converted) where
  pub few-rewards : c.actions * c.states ≤ max_actions * max_converted
  few-rewards = mul-le-mul h.valid.few_actions few

  fit : Sizes c.actions c.states c.observations
  fit = let v = h.valid in sizes record { actions = v.few_actions; states = v.few_states; observations = v.few_observations }

  pub ready : ExpectReady c T O cells
  ready =
      let v = h.valid in
      record {
        some_states = v.some_states;
        few_states = few;
        few_actions = v.few_actions;
        few_observations = v.few_observations;
        transitions = omega (arith, l.transitions, fit.transitions);
        observed = omega (arith, l.observed, fit.observed);
        stated = omega (arith, l.stated, mul-le-mul (mul-le-mul few-rewards few) v.few_observations);
        transition = v.transition_limit;
        observation = v.observation_limit;
        outcome = λ a la s ls s' ls' o lo. h.outcomes (outcome_place c.states c.observations a s s' o);
      }

  pub writable : {R : List ℤ} → R ≡ expected_rewards (file_in c T O cells start) → Writable c T O R start
  writable e = subst⁻¹ (λ (R : List ℤ). Writable c T O R start) e record {
    valid = expected-valid (file_in c T O cells start) h;
    stored = record {
      transitions = omega (arith, l.transitions, fit.transitions);
      observed = omega (arith, l.observed, fit.observed);
      rewards = omega (
        arith,
        few-rewards,
        length-replicate {A = ℤ} (max_actions * max_converted) (pos 0),
        laid_rows-length c.actions c.states (λ a s. expected_ticks c T O cells s a) (replicate (max_actions * max_converted) (pos 0))
            (omega (arith, few-rewards, length-replicate {A = ℤ} (max_actions * max_converted) (pos 0))),
      );
    };
    few = few;
    begins = record { long = omega (arith, l.begins, h.valid.few_states); below = starts-below (file_in c T O cells start) h };
  }
