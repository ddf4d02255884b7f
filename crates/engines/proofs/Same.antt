-- With T as a list says it, successor weights and backups are those of the table. Assumes nothing.
use Rattle.integers.proofs.Kit.{◌≡◌, ap, List, ℕ, ◌<◌, ◌*◌, get_or, ℤ, pos, ◌+ℤ◌}
use Rattle.integers.specs.Whole.{◌·◌}
use Rattle.integers.proofs.Sums.{sum-cong, total-cong}
use Rattle.tables.specs.Limits.{K}
use Rattle.tables.specs.Storage.{reward_in, weight_in}
use Rattle.columns.specs.Steps.{Says}
use Rattle.sums.specs.Steps.{moved_in, onward_in, backup_in}
use Rattle.sparse.specs.Steps.{moved_said, onward_said, backup_said}

module _ {n a : ℕ} {cells list : List ℕ} (says : Says n cells list a) where
  pub moved_same : (p : List ℕ) (s' : ℕ) → s' < n → moved_said n list p a s' ≡ moved_in n cells p a s'
  unfolding moved_said moved_in
  moved_same p s' l = total-cong n _ _ (λ s h. ap (λ (k : ℕ). weight_in p s * k) (says.turned s h s' l))

  onward-same : (f : List ℤ) (s : ℕ) → s < n → onward_said n list f s a ≡ onward_in n cells f s a
  unfolding onward_said onward_in
  onward-same f s l = sum-cong n _ _ (λ s' h. ap (λ (k : ℕ). k · get_or f s' (pos 0)) (says.turned s l s' h))

  pub backup-same : (g : ℕ) (rewards f : List ℤ) (s : ℕ) → s < n → backup_said n g list rewards f a s ≡ backup_in n g cells rewards f a s
  unfolding backup_said backup_in
  backup-same g rewards f s l = ap (λ (z : ℤ). K · reward_in n rewards s a +ℤ g · z) (onward-same f s l)
