-- Upper bounds by rows, one for each action: the fast informed bound (source document 000, 21.4) and QMDP (21.1), in whole numbers. A row has an entry for
-- each state, in ticks, and no plan that opens with its action earns more from there. Rows are given by action and state; each backup is rounded up.
--
--   highest n f          the largest of f 0, .., f (n - 1)
--   best_row M F q        the largest product of a row with weights q
--   rows0                the rows of level 0
--   informed_next M F     the informed rows a level above rows F
--   qmdp_next M Q         the same for QMDP
use Rattle.std.specs.Prelude.{ℕ, ◌*◌, ℤ, pos, ◌+ℤ◌}
use Rattle.integers.specs.Whole.{◌·◌, sum_to, ceil_div}
use Rattle.integers.specs.Search.{first_largest}
use Rattle.tables.specs.Limits.{one, K}
use Rattle.tables.specs.Model.{Model}
use Rattle.plans.specs.Level.{product}

unfoldable pub highest : ℕ → (ℕ → ℤ) → ℤ
highest n f = f (first_largest n f)

unfoldable pub best_row : Model → (ℕ → ℕ → ℤ) → (ℕ → ℕ) → ℤ
best_row M F q = highest M.actions (λ a. product M.states q (F a))

-- of either kind
abbrev pub rows0 : ℕ → ℕ → ℤ
rows0 a s = pos 0

-- ---- the fast informed bound

-- K × R(s,a) + g × the sum over o of the largest, over actions a', of the sum over s' of T(s,a,s') × O(a,s',o) × F(a',s')
unfoldable pub informed_backup : Model → (ℕ → ℕ → ℤ) → ℕ → ℕ → ℤ
informed_backup M F a s =
    K · M.reward s a
    +ℤ M.discount · sum_to M.observations (λ o. best_row M F (λ s'. M.transition s a s' * M.observation a s' o))

unfoldable pub informed_next : Model → (ℕ → ℕ → ℤ) → ℕ → ℕ → ℤ
informed_next M F a s = ceil_div (informed_backup M F a s) K

-- ---- QMDP

-- K × R(s,a) + g × the sum over s' of T(s,a,s') × 1,000 × the largest, over actions a', of Q(a',s')
unfoldable pub qmdp_backup : Model → (ℕ → ℕ → ℤ) → ℕ → ℕ → ℤ
qmdp_backup M Q a s =
    K · M.reward s a
    +ℤ M.discount · sum_to M.states (λ s'. (M.transition s a s' * one) · highest M.actions (λ a'. Q a' s'))

unfoldable pub qmdp_next : Model → (ℕ → ℕ → ℤ) → ℕ → ℕ → ℤ
qmdp_next M Q a s = ceil_div (qmdp_backup M Q a s) K
