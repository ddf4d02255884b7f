-- A level: alpha vectors for the floor, corner and point values for the sawtooth ceiling, and the backup inequalities that they meet over the level before.
use Rattle.std.specs.Prelude.{◌≡◌, Bool, true, ◌||◌, ℕ, zero, suc, ◌*◌, ◌/◌, ◌≤◌, ◌<◌, min, eqb, ℤ, pos, negsuc, nat_abs, ◌+ℤ◌, ◌-ℤ◌, ◌≤ℤ◌}
use Rattle.integers.specs.Whole.{◌·◌, sum_to, total_to, largest_to}
use Rattle.integers.specs.Search.{every}
use Rattle.tables.specs.Limits.{K, max_vectors}
use Rattle.tables.specs.Model.{Model, successor, expected_reward, backup}
use Rattle.plans.specs.Limits.{max_points, max_total, range}

pub record Level : Type 0 where
  pub vectors : ℕ
  pub action : ℕ → ℕ
  pub choice : ℕ → ℕ → ℕ  -- by vector and observation: a vector of the level before
  pub covers : ℕ → ℕ → Bool  -- by vector and state: its mask
  pub entry : ℕ → ℕ → ℤ  -- by vector and state, in ticks
  pub corner : ℕ → ℤ  -- in ticks
  pub points : ℕ
  pub weight : ℕ → ℕ → ℕ  -- by point and state
  pub value : ℕ → ℤ  -- by point, in ticks times the total of its weights

-- level 0: one zero vector that covers all states, zero corners, no points
unfoldable pub level0 : Level
level0 = record {
  vectors = 1;
  action = λ v. 0;
  choice = λ v o. 0;
  covers = λ v s. true;
  entry = λ v s. pos 0;
  corner = λ s. pos 0;
  points = 0;
  weight = λ i s. 0;
  value = λ i. pos 0;
}

-- the product of weights and entries
unfoldable pub product : ℕ → (ℕ → ℕ) → (ℕ → ℤ) → ℤ
product n q e = sum_to n (λ s. q s · e s)

-- ---- masks
-- a vector covers all states
unfoldable pub covers_all : ℕ → Level → ℕ → Bool
covers_all n L v = every n (L.covers v)

-- a vector counts at weights of which all lie on states that it covers
unfoldable pub counts : ℕ → Level → (ℕ → ℕ) → ℕ → Bool
counts n L b v = every n (λ s. eqb (b s) 0 || L.covers v s)

-- ---- the sawtooth ceiling
pub data Ratio : Type 0 where
  none : Ratio
  ratio : ℕ → Ratio

-- with weight 0 a state has no ratio
unfoldable pub joined : Ratio → ℕ → ℕ → Ratio
joined r x zero = r
joined none x (suc w) = ratio (x / suc w)
joined (ratio d) x (suc w) = ratio (min d (x / suc w))

-- the smallest, over the states with p(s) above 0, of q(s) × G / p(s), rounded down
unfoldable pub smallest : ℕ → (ℕ → ℕ) → (ℕ → ℕ) → ℕ → Ratio
smallest zero p q G = none
smallest (suc n) p q G = joined (smallest n p q G) (q n * G) (p n)

unfoldable pub or_none : Ratio → ℕ
or_none none = 0
or_none (ratio d) = d

-- the drop of a point with weights p and gain G: none where G is 0 or less
unfoldable pub drop : ℕ → (ℕ → ℕ) → (ℕ → ℕ) → ℤ → ℕ
drop n p q (pos zero) = 0
drop n p q (pos (suc G)) = or_none (smallest n p q (suc G))
drop n p q (negsuc G) = 0

-- G: corners · p less the point's value
unfoldable pub gain : ℕ → Level → ℕ → ℤ
gain n L i = product n (L.weight i) L.corner -ℤ L.value i

-- the ceiling at q: corners · q less the largest drop, or less 0
unfoldable pub ceiling : ℕ → Level → (ℕ → ℕ) → ℤ
ceiling n L q = product n q L.corner -ℤ pos (largest_to L.points (λ i. drop n (L.weight i) q (gain n L i)))

-- ---- the backup inequalities
-- the least K × value at weights p that an action allows: K × p·R(·,a) + g × the sum over o of the ceiling at the successor weights
unfoldable pub backup_at : Model → Level → (ℕ → ℕ) → ℕ → ℤ
backup_at M L p a = K · expected_reward M p a +ℤ M.discount · sum_to M.observations (λ o. ceiling M.states L (successor M p a o))

-- weight 1 on one state
unfoldable pub corner_weight : ℕ → ℕ → ℕ
corner_weight zero zero = 1
corner_weight zero (suc i) = 0
corner_weight (suc s) zero = 0
corner_weight (suc s) (suc i) = corner_weight s i

-- the entries that follow a vector: those of the vector chosen for each observation
unfoldable pub follows : Level → (ℕ → ℕ) → ℕ → ℕ → ℤ
follows L choice o s' = L.entry (choice o) s'

-- from a state that the vector covers, the vector chosen for an observation covers each state that is reached with it; and the entry is at most its backup
pub record VectorHolds (M : Model) (L W : Level) (v : ℕ) : Type 0 where
  pub action_exists : W.action v < M.actions
  pub choice_exists : (o : ℕ) → o < M.observations → W.choice v o < L.vectors
  pub covers_reached : (s : ℕ) → s < M.states → W.covers v s ≡ true → (o : ℕ) → o < M.observations → (s' : ℕ) → s' < M.states
      → 0 < M.transition s (W.action v) s' * M.observation (W.action v) s' o → L.covers (W.choice v o) s' ≡ true
  pub entry_holds : (s : ℕ) → s < M.states → W.covers v s ≡ true → K · W.entry v s ≤ℤ backup M (W.action v) (follows L (W.choice v)) s

-- level W meets its inequalities over level L
pub record Meets (M : Model) (L W : Level) : Type 0 where
  pub vector : (v : ℕ) → v < W.vectors → VectorHolds M L W v
  pub corner : (s : ℕ) → s < M.states → (a : ℕ) → a < M.actions → backup_at M L (corner_weight s) a ≤ℤ K · W.corner s
  pub point : (i : ℕ) → i < W.points → (a : ℕ) → a < M.actions → backup_at M L (W.weight i) a ≤ℤ K · W.value i

-- what a point's weights are: they total 1 to max_total
abbrev pub IsPoint : ℕ → (ℕ → ℕ) → Type 0
IsPoint n weight = (0 < total_to n weight) × (total_to n weight ≤ max_total)

-- level W is within the limits of level t, of at most so many vectors
pub record ShapedUpTo (most : ℕ) (M : Model) (t : ℕ) (W : Level) : Type 0 where
  pub some_vectors : 0 < W.vectors
  pub few_vectors : W.vectors ≤ most
  pub few_points : W.points ≤ max_points
  pub action_in : (v : ℕ) → v < W.vectors → W.action v < M.actions
  pub entry_fits : (v : ℕ) → v < W.vectors → (s : ℕ) → s < M.states → nat_abs (W.entry v s) ≤ range t
  pub corner_fits : (s : ℕ) → s < M.states → nat_abs (W.corner s) ≤ range t
  pub value_fits : (i : ℕ) → i < W.points → nat_abs (W.value i) ≤ total_to M.states (W.weight i) * range t
  pub total : (i : ℕ) → i < W.points → IsPoint M.states (W.weight i)

abbrev pub Shaped : Model → ℕ → Level → Type 0
Shaped M t W = ShapedUpTo max_vectors M t W

-- two levels that agree in every part that is read
pub record Agree (M : Model) (W W' : Level) : Type 0 where
  pub vectors_same : W'.vectors ≡ W.vectors
  pub points_same : W'.points ≡ W.points
  pub action_same : (v : ℕ) → v < W.vectors → W'.action v ≡ W.action v
  pub choice_same : (v : ℕ) → v < W.vectors → (o : ℕ) → o < M.observations → W'.choice v o ≡ W.choice v o
  pub covers_same : (v : ℕ) → v < W.vectors → (s : ℕ) → s < M.states → W'.covers v s ≡ W.covers v s
  pub entry_same : (v : ℕ) → v < W.vectors → (s : ℕ) → s < M.states → W'.entry v s ≡ W.entry v s
  pub corner_same : (s : ℕ) → s < M.states → W'.corner s ≡ W.corner s
  pub weight_same : (i : ℕ) → i < W.points → (s : ℕ) → s < M.states → W'.weight i s ≡ W.weight i s
  pub value_same : (i : ℕ) → i < W.points → W'.value i ≡ W.value i
