-- Plans, and what they earn exactly.
use Rattle.std.specs.Prelude.{◌≡◌, ℕ, suc, ◌*◌, ◌^◌, ◌<◌, ℤ, pos, ◌+ℤ◌}
use Rattle.integers.specs.Whole.{◌·◌, sum_to}
use Rattle.tables.specs.Limits.{K}
use Rattle.tables.specs.Model.{Model}

-- a t-step plan: an action and, if t is above 1, a (t-1)-step plan for each observation
pub data Plan : ℕ → Type 0 where
  stop : Plan 0
  step : {t : ℕ} → ℕ → (ℕ → Plan t) → Plan (suc t)

-- its actions are the model's
unfoldable pub Fits : Model → {t : ℕ} → Plan t → Type 0
Fits M stop = Unit {0}
Fits M (step a next) = (a < M.actions) × ((o : ℕ) → o < M.observations → Fits M (next o))

-- a plan opens with its own action
unfoldable pub Opens : {t : ℕ} → Plan t → ℕ → Type 0
Opens stop a = Unit {0}
Opens (step b next) a = b ≡ a

-- what it earns from s, times K^t
unfoldable pub earns : Model → {t : ℕ} → Plan t → ℕ → ℤ
earns M stop s = pos 0
earns M (step {t = t} a next) s =
    (K ^ suc t) · M.reward s a
    +ℤ M.discount · sum_to M.states (λ s'. sum_to M.observations (λ o. (M.transition s a s' * M.observation a s' o) · earns M (next o) s'))

-- what it earns at a mixture, times K^t
unfoldable pub earns_at : Model → {t : ℕ} → Plan t → (ℕ → ℕ) → ℤ
earns_at M π b = sum_to M.states (λ s. b s · earns M π s)
