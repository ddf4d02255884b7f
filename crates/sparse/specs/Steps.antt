-- The partial sums of `sums`, with T as a list says it.
use Rattle.std.specs.Prelude.{ℕ, ◌*◌, List, get_or, ℤ, pos, ◌+ℤ◌}
use Rattle.integers.specs.Whole.{◌·◌, sum_to, total_to}
use Rattle.tables.specs.Limits.{K}
use Rattle.tables.specs.Storage.{reward_in, weight_in}
use Rattle.columns.specs.Columns.{turned_back}

-- the sum over s of p(s) × T(s,a,s')
unfoldable pub moved_said : ℕ → List ℕ → List ℕ → ℕ → ℕ → ℕ
moved_said n list p a s' = total_to n (λ s. weight_in p s * turned_back n list s a s')

-- the sum over s' of T(s,a,s') × what is foreseen at s'
unfoldable pub onward_said : ℕ → List ℕ → List ℤ → ℕ → ℕ → ℤ
onward_said n list foreseen s a = sum_to n (λ s'. turned_back n list s a s' · get_or foreseen s' (pos 0))

-- K × R(s,a) + g × the sum onward
unfoldable pub backup_said : ℕ → ℕ → List ℕ → List ℤ → List ℤ → ℕ → ℕ → ℤ
backup_said n g list rewards foreseen a s = K · reward_in n rewards s a +ℤ g · onward_said n list foreseen s a
