-- What the code's steps ask and answer.
use Rattle.std.specs.Prelude.{ℕ, ◌*◌, ◌≤◌, ◌≡◌, List, length, get_or, ℤ, pos, nat_abs, Result}
use Rattle.integers.specs.Whole.{total_to}
use Rattle.refusals.specs.declared.Refusal.{Refusal}
use Rattle.refusals.specs.Verdicts.{Verdict, ◌before◌, left}
use Rattle.tables.specs.Limits.{max_states, max_converted, max_actions, max_observations, max_reward, start_total}
use Rattle.tables.specs.Model.{Valid}
use Rattle.tables.specs.Storage.{model_of}
use Rattle.bodies.specs.Body.{ModelFile}
use Rattle.digits.specs.Digits.{text_over}
use Rattle.conversion.specs.Convert.{expect_verdict, expected_text, convert_answer}

-- what a file that is not refused by 2 to 6 says: limits that hold, and totals
pub record SoundFile (x : ModelFile) : Type 0 where
  pub valid : Valid (model_of x.tables)
  pub outcomes : (i : ℕ) → nat_abs (get_or x.tables.reward i (pos 0)) ≤ max_reward
  pub starts : total_to x.tables.states (λ s. get_or x.start s 0) ≡ start_total

-- slices of the lengths that it is read into
pub record Long (transition observation : List ℕ) (outcomes : List ℤ) (start : List ℕ) : Type 0 where
  pub transitions : length transition ≡ max_actions * max_states * max_states
  pub observed : length observation ≡ max_actions * max_states * max_observations
  pub stated : length outcomes ≡ max_actions * max_converted * max_converted * max_observations
  pub begins : length start ≡ max_states

-- ---- answers

-- the answer of a verdict and a text, and what they leave of the output
pub record AnswersText (v : Verdict) (text out : List ℕ) (r : Result ℕ Refusal) (after : List ℕ) : Type 0 where
  pub is : r ≡ convert_answer v (length text)
  pub leaves : after ≡ left v (text_over 0 text out) out

-- the same of a file that was read
abbrev pub AnswersFile : ModelFile → List ℕ → Result ℕ Refusal → List ℕ → Type 0
AnswersFile x = AnswersText (x.verdict before expect_verdict x) (expected_text x)
