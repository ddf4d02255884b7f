-- Rewards stated by action, state, state reached and observation, weighed by T and O: what is expected of each state and action.
--
--   outcome_in            the reward of a, s, s' and o
--   expected_millionths   the sum over s' and o of T(s,a,s') × O(a,s',o) × it: T and O are thousandths each
--   expected_ticks        the same in ticks
--   laid_expected         all of them, by action and state, over the first of other cells
--   expected_verdict      26 where it is not a whole number of ticks: first by action, then by state, at action × n + state
use Rattle.std.specs.Prelude.{ℕ, ◌*◌, ◌%◌, Bool, List, eqb, get_or, ℤ, pos, nat_abs}
use Rattle.integers.specs.Whole.{◌·◌, sum_to, floor_div}
use Rattle.integers.specs.Cells.{laid_rows}
use Rattle.tables.specs.declared.Counts.{Counts}
use Rattle.refusals.specs.Verdicts.{Verdict, unless, first_of}
use Rattle.tables.specs.Limits.{one}
use Rattle.tables.specs.Storage.{row_place, transition_in, observation_in}
use Rattle.drafts.specs.Drafts.{outcome_place}

abbrev pub outcome_in : ℕ → ℕ → List ℤ → ℕ → ℕ → ℕ → ℕ → ℤ
outcome_in n k cells a s s' o = get_or cells (outcome_place n k a s s' o) (pos 0)

unfoldable pub expected_millionths : Counts → List ℕ → List ℕ → List ℤ → ℕ → ℕ → ℤ
expected_millionths c T O cells s a =
    let n = c.states in
    let k = c.observations in
    sum_to n (λ s'. sum_to k (λ o. (transition_in n T s a s' * observation_in n k O a s' o) · outcome_in n k cells a s s' o))

-- a whole number of ticks
abbrev pub is_whole : ℤ → Bool
is_whole z = eqb (nat_abs z % (one * one)) 0

abbrev pub expected_ticks : Counts → List ℕ → List ℕ → List ℤ → ℕ → ℕ → ℤ
expected_ticks c T O cells s a = floor_div (expected_millionths c T O cells s a) (one * one)

abbrev pub laid_expected : Counts → List ℕ → List ℕ → List ℤ → List ℤ → List ℤ
laid_expected c T O cells xs = laid_rows c.actions c.states (λ a s. expected_ticks c T O cells s a) xs

unfoldable pub expected_verdict : Counts → List ℕ → List ℕ → List ℤ → Verdict
expected_verdict c T O cells =
    first_of c.actions (λ a. first_of c.states (λ s. unless (is_whole (expected_millionths c T O cells s a)) 26 (row_place c.states a s)))
