-- Expected rewards: how they are summed, how large they are, and that they are exact where they are whole. Assumes nothing.
--
-- In order: whole numbers of ticks; how it is summed; how large it is; what the code's sums read.
use Rattle.integers.proofs.Kit.{◌≡◌, ◌∙◌, ap, sym, true, List, ℕ, ◌≤◌, ◌<◌, ◌*◌, suc, ◌%◌, ◌/◌, arith, mul-le-mul, mul-le-mul_right, eqb-true}
use Rattle.integers.proofs.Kit.{ℤ, pos, negsuc, neg_ℤ, nat_abs, lit<}
use native.Mathlib.Nat as NatL
use native.Mathlib.Nat.{mul-le-mul_left}
use Rattle.integers.specs.Whole.{◌·◌, sum_to, total_to, floor_div}
use Rattle.integers.proofs.Lists.{cell_below}
use Rattle.integers.proofs.Order.{≤-antisym, ≤-of, ≤_trans, ·-neg, ·-mono}
use Rattle.integers.proofs.Parts.{eq-by, neg-parts, times-parts}
use Rattle.integers.proofs.Rounding.{floor-≤, floor-most, floor-range}
use Rattle.integers.proofs.Sizes.{abs-times, sum-weighed}
use Rattle.integers.proofs.Sums.{sum-cong, sum-spread, total-cong, total-mul, total-mul-right}
use Rattle.integers.proofs.Terms.{Terms, terms-limit}
use Rattle.tables.specs.declared.Counts.{Counts}
use Rattle.refusals.specs.Verdicts.{Fine}
use Rattle.tables.specs.Limits.{max_converted, max_actions, max_reward, one}
use Rattle.tables.specs.Storage.{row_place, cell_place, transition_in, observation_in}
use Rattle.refusals.proofs.Refusals.{fine-at, unless-fine}
use Rattle.expected.specs.Expected.{outcome_in, expected_millionths, is_whole, expected_ticks, expected_verdict}
use Rattle.expected.specs.Steps.{outcomes_in, seen_limit, SeenFit, ExpectReady}

-- ---- whole numbers of ticks

-- a multiple of k is not rounded
multiple-exact : (k : ℕ) → 0 < k → (z r : ℤ) → z ≡ k · r → k · floor_div z k ≡ z
multiple-exact k h z r e = ≤-antisym (floor-≤ k h z) (≤_trans (≤-of e) (·-mono k (floor-most k h z r (≤-of (sym e)))))

whole-exact : (k : ℕ) → 0 < k → (z : ℤ) → nat_abs z % k ≡ 0 → k · floor_div z k ≡ z
whole-exact k h (pos a) e =
    multiple-exact k h (pos a) (pos (a / k)) (eq-by _ _ (omega (arith, times-parts k (pos (a / k)), NatL.div-add-mod' a k, e)))
whole-exact k h (negsuc a) e =
    let q : ℤ = pos (suc a / k) in
    let d : negsuc a ≡ neg_ℤ (k · q) = eq-by _ _ (omega (arith, neg-parts (k · q), times-parts k q, NatL.div-add-mod' (suc a) k, e)) in
    multiple-exact k h (negsuc a) (neg_ℤ q) (d ∙ sym (·-neg k q))

module _ (c : Counts) (T O : List ℕ) (cells : List ℤ) where
  -- where nothing is refused, each expected reward is whole
  pub expected-whole : expected_verdict c T O cells ≡ Fine → (a : ℕ) → a < c.actions → (s : ℕ) → s < c.states
      → is_whole (expected_millionths c T O cells s a) ≡ true
  unfolding expected_verdict
  expected-whole e a la s ls = unless-fine _ _ _ (fine-at _ c.states (fine-at _ c.actions e a la) s ls)

  -- and in ticks it is the same
  pub expected-exact : (s a : ℕ) → is_whole (expected_millionths c T O cells s a) ≡ true
      → (one * one) · expected_ticks c T O cells s a ≡ expected_millionths c T O cells s a
  expected-exact s a h = whole-exact (one * one) (lit< tt) (expected_millionths c T O cells s a) (eqb-true _ 0 h)

  -- ---- how it is summed

  -- with the sum over observations at each state reached
  pub expected-seen : (s a : ℕ)
      → sum_to c.states (λ s'. transition_in c.states T s a s' · outcomes_in c.states c.observations O cells a s s')
      ≡ expected_millionths c T O cells s a
  unfolding expected_millionths outcomes_in
  expected-seen s a =
      sum-cong c.states _ _ (λ s' l. sum-spread _ c.observations (observation_in c.states c.observations O a s')
      (outcome_in c.states c.observations cells a s s'))

-- ---- how large it is

-- where rows of T and O total 1, no reward is larger than those that are stated
module _ (c : Counts) (T O : List ℕ) (cells : List ℤ) (s a : ℕ) (moves : total_to c.states (λ s'. transition_in c.states T s a s') ≡ one)
    (seen : (s' : ℕ) → s' < c.states → total_to c.observations (λ o. observation_in c.states c.observations O a s' o) ≡ one)
    (small : (s' : ℕ) → s' < c.states → (o : ℕ) → o < c.observations
    → nat_abs (outcome_in c.states c.observations cells a s s' o) ≤ max_reward) where
  -- the weight of a state reached and an observation
  abbrev weight : ℕ → ℕ → ℕ
  weight s' o = transition_in c.states T s a s' * observation_in c.states c.observations O a s' o

  weights-total : total_to c.states (λ s'. total_to c.observations (weight s')) ≡ one * one
  weights-total =
      total-cong c.states _ _ (λ s' l. total-mul c.observations _ _ ∙ ap (λ (t : ℕ). transition_in c.states T s a s' * t) (seen s' l))
      ∙ total-mul-right c.states one _
      ∙ ap (λ (t : ℕ). t * one) moves

  pub expected-within : nat_abs (expected_ticks c T O cells s a) ≤ max_reward
  unfolding expected_millionths
  expected-within =
      floor-range (one * one) (lit< tt) max_reward (expected_millionths c T O cells s a)
      (rw weights-total at
      (sum-weighed c.states max_reward (λ s'. total_to c.observations (weight s'))
      (λ s'. sum_to c.observations (λ o. weight s' o · outcome_in c.states c.observations cells a s s' o))
      (λ s' l. sum-weighed c.observations max_reward (weight s') (λ o. weight s' o · outcome_in c.states c.observations cells a s s' o)
      (λ o b. rw (abs-times (weight s' o) (outcome_in c.states c.observations cells a s s' o)) (mul-le-mul_left (weight s' o) (small s' l o b))))))

-- ---- what the code's sums read

module _ {n k a s s' : ℕ} {O : List ℕ} {cells : List ℤ} (r : SeenFit n k O cells a s s') where
  pub seen-terms : Terms k one max_reward (observation_in n k O a s') (outcome_in n k cells a s s')
  seen-terms = record { weights = r.observation; values = r.outcome }

  pub seen-limit : nat_abs (outcomes_in n k O cells a s s') ≤ seen_limit
  unfolding outcomes_in
  seen-limit = omega (arith, terms-limit seen-terms k (omega arith), mul-le-mul_right (one * max_reward) r.few_observations)

module _ {c : Counts} {T O : List ℕ} {cells : List ℤ} (r : ExpectReady c T O cells) where
  -- the action and the state of a place, and how many places there are
  pub action_in : {i : ℕ} → i < c.actions * c.states → i / c.states < c.actions
  action_in l = (NatL.div-lt_iff_lt-mul r.some_states).1 l

  pub state_in : (i : ℕ) → i % c.states < c.states
  state_in i = NatL.mod-lt i r.some_states

  pub places-few : c.actions * c.states ≤ max_actions * max_converted
  places-few = mul-le-mul r.few_actions r.few_states

module _ {c : Counts} {T O : List ℕ} {cells : List ℤ} (r : ExpectReady c T O cells) {a s : ℕ} (la : a < c.actions) (ls : s < c.states) where
  pub ready-seen : {s' : ℕ} → s' < c.states → SeenFit c.states c.observations O cells a s s'
  ready-seen {s'} l = record {
    few_states = r.few_states;
    few_observations = r.few_observations;
    action = omega (arith, r.few_actions);
    state = ls;
    reached = l;
    observed = omega (arith, r.observed, mul-le-mul_right c.observations (mul-le-mul_right c.states la));
    stated = λ o b. omega (
      arith,
      r.stated,
      cell_below (cell_place c.states c.states a s s') (c.actions * c.states * c.states) o c.observations
          (cell_below (row_place c.states a s) (c.actions * c.states) s' c.states (cell_below a c.actions s c.states la ls) l) b,
    );
    observation = r.observation a la s' l;
    outcome = r.outcome a la s ls s' l;
  }

  pub ready-terms : Terms c.states one seen_limit (transition_in c.states T s a) (outcomes_in c.states c.observations O cells a s)
  ready-terms = record { weights = r.transition a la s ls; values = λ s' l. seen-limit (ready-seen l) }
