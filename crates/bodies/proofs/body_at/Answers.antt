use Rattle.std.proofs.lemmas.Grind.{common_steps}
use Rattle.integers.proofs.Kit.{ℕ, ◌≡◌, ◌∙◌, ap, sym, List, arith}
use Rattle.integers.proofs.Kit.{◌*◌, ◌≤◌, Bool, true, false, false≢true, mul-le-mul, length, length-replicate, replicate, pos, ℤ}
use Rattle.tables.specs.Limits.{max_states, max_converted, max_actions, max_observations}
use Rattle.tables.proofs.Fitting.{Sizes, sizes}
use Rattle.grammar.proofs.Laws.{handed}
use Rattle.entries.specs.Steps.{CellsFit}
use Rattle.rewards.specs.Steps.{OutcomesFit, RewardCells}
use Rattle.headers.specs.Steps.{CountsFit}
use Rattle.bodies.specs.Body.{reward_cells, body_by}
use Rattle.bodies.proofs.body_at.Goals as goal

-- ---- counts and cells

few : {n m k d : ℕ} → CountsFit n m k d → Sizes m n k
few c = sizes record { actions = c.actions.1; states = c.states.1; observations = c.observations.1 }

-- cells that are all the same
same-cells : {A : Type 0} (x : A) (size : ℕ) {cells : List A} → cells ≡ replicate size x → length cells ≡ size
same-cells x size e = ap length e ∙ length-replicate size x

fits : {A : Type 0} (x : A) (size : ℕ) {m n w : ℕ} {cells : List A} → cells ≡ replicate size x → (1 ≤ m) × (m ≤ max_actions) → (1 ≤ n) × (n ≤ max_states)
    → (1 ≤ w) × (w ≤ max_states) → m * n * w ≤ size → CellsFit m n w cells
fits x size e m n w h =
    record {
      some_blocks = m.0;
      few_blocks = m.1;
      some_rows = n.0;
      few_rows = n.1;
      some_places = w.0;
      few_places = w.1;
      long = omega (arith, same-cells x size e, h);
    }

-- rewards in full fit where the states are few, others always
outcomes-fit : {n m k d : ℕ} {cells : List ℤ} → cells ≡ replicate (reward_cells true) (pos 0) → CountsFit n m k d → OutcomesFit m n k cells
outcomes-fit {n} {m} {k} {d} {cells} e c =
    record {
      some_actions = c.actions.0;
      few_actions = c.actions.1;
      some_states = c.states.0;
      few_states = c.states.1;
      some_observations = c.observations.0;
      few_observations = c.observations.1;
      long =
          λ h.
          let rows : m * n ≤ max_actions * max_converted = mul-le-mul c.actions.1 h in
          let all : m * n * n * k ≤ reward_cells true = mul-le-mul (mul-le-mul rows h) c.observations.1 in
          omega (arith, same-cells (pos 0) (reward_cells true) e, all);
    }

rewards-fit : (full : Bool) {n m k d : ℕ} {cells : List ℤ} → cells ≡ replicate (reward_cells full) (pos 0) → CountsFit n m k d → RewardCells full m n k cells
rewards-fit true e c = record { in_full = λ _. outcomes-fit e c; by_state = λ f. absurd (false≢true (sym f)) }
rewards-fit false {n} {m} {k} e c =
    let f : m * n ≤ max_actions * max_states = mul-le-mul c.actions.1 c.states.1 in
    record {
      in_full = λ f. absurd (false≢true f);
      by_state = λ _. fits (pos 0) (max_actions * max_states) e c.actions c.states (omega arith, omega arith) (omega (arith, f));
    }

pub statements_at-requires : goal.statements_at-requires
statements_at-requires c =
    let r = c.requires in
    let counts = r.counts_fit in
    let f = few counts in
    let k = counts.observations in (
      c.in_ok-next.ensures.onward.1.1,
      (
        fits 0 (max_actions * max_states * max_states) r.transition_value counts.actions counts.states counts.states f.transitions,
        (
          fits 0 (max_actions * max_states * max_observations) r.observation_value counts.actions counts.states (k.0, omega (arith, k.1)) f.observed,
          rewards-fit c.args.full r.reward_value counts,
        ),
      ),
    )

pub returns-in_err-statements_at-clause-value : goal.returns-in_err-statements_at-clause-value
unfolding body_by
returns-in_err-statements_at-clause-value c =
    let r = c.requires in
    let read = rw (r.transition_value, r.observation_value, r.reward_value) at c.in_err-statements_at.ensures in
    rw (handed _ c.from_residual-in_err-statements_at.ensures, ← c.in_ok-next.ensures.is, ← read)

pub totals_of-requires-clause-n_in_bounds : goal.totals_of-requires-clause-n_in_bounds
totals_of-requires-clause-n_in_bounds c =
    let r = c.requires in
    let f = few r.counts_fit in (
      omega (arith, f.transitions, same-cells 0 (max_actions * max_states * max_states) r.transition_value),
      (
        omega (arith, f.observed, same-cells 0 (max_actions * max_states * max_observations) r.observation_value),
        omega (arith, same-cells 0 max_states r.start_value),
      ),
    )

pub returns-in_err-totals_of-clause-value : goal.returns-in_err-totals_of-clause-value
unfolding body_by
returns-in_err-totals_of-clause-value c =
    let r = c.requires in
    let read = rw (r.transition_value, r.observation_value, r.reward_value) at c.in_ok-statements_at.ensures in
    let totals = c.in_err-totals_of.ensures c.args.c.discount c.statements_at.new.reward in
    rw (handed _ c.from_residual-in_err-totals_of.ensures, ← c.in_ok-next.ensures.is, ← read, ← totals)

pub returns-clause-value : goal.returns-clause-value
unfolding body_by
returns-clause-value c =
    let r = c.requires in
    let read = rw (r.transition_value, r.observation_value, r.reward_value) at c.in_ok-statements_at.ensures in
    let totals = c.in_ok-totals_of.ensures c.args.c.discount c.statements_at.new.reward in
    grind (arith, common_steps)

pub returns-clause-start_after : goal.returns-clause-start_after
unfolding body_by
returns-clause-start_after c d e =
    let r = c.requires in
    let read = rw (r.transition_value, r.observation_value, r.reward_value) at c.in_ok-statements_at.ensures in
    let totals = c.in_ok-totals_of.ensures c.args.c.discount c.statements_at.new.reward in
    grind (arith, common_steps)
