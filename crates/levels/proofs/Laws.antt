-- Laws of a level's tests as a loop makes them. Assumes nothing.
use Rattle.integers.proofs.Kit.{◌≡◌, true, false, Bool, ◌||◌, ℕ, ◌<◌, ◌*◌, arith, ltb-true, ne_eqb}
use mathlib.Core.Bool.{not}
use Rattle.integers.proofs.Searches.{every-at}
use Rattle.tables.specs.Model.{Model}
use Rattle.refusals.specs.Verdicts.{Verdict, Fine, Refused, ◌before◌, unless}
use Rattle.refusals.proofs.Refusals.{before-fine, unless-fine, fine-at}
use Rattle.plans.specs.Level.{Level}
use Rattle.levels.specs.Judged.{numbers_in, masks_verdict}

-- ---- one test
pub passed : {b : Bool} (k i : ℕ) → b ≡ true → unless b k i ≡ Fine
passed k i e = rw e

pub failed : {b : Bool} (k i : ℕ) → b ≡ false → unless b k i ≡ Refused k i
failed k i e = rw e

pub fine_before : {v w u : Verdict} → v ≡ Fine → w ≡ u → (v before w) ≡ u
fine_before e f = rw (e, f)

-- of vectors or nodes whose numbers are not refused, each action and each choice exists
pub numbers-in : (number vectors m k standing : ℕ) (action : ℕ → ℕ) (choice : ℕ → ℕ → ℕ)
    → numbers_in number vectors m k standing action choice ≡ Fine
    → (v : ℕ) → v < vectors → (action v < m) × ((o : ℕ) → o < k → choice v o < standing)
unfolding numbers_in
numbers-in number vectors m k standing action choice e v l =
    let h = before-fine _ _ (fine-at _ vectors e v l) in
    (ltb-true _ _ (unless-fine _ _ _ h.0), λ o b. ltb-true _ _ (unless-fine _ _ _ (fine-at _ k h.1 o b)))

-- a test that is asked only under a condition, which holds
pub only_if : (a b : Bool) → (not a || b) ≡ true → a ≡ true → b ≡ true
only_if a b e h = rw h at e

-- of vectors that 21 does not refuse, those chosen cover each state that a covered one reaches
pub masks-in : (M : Model) (L W : Level) → masks_verdict M L W ≡ Fine → (v : ℕ) → v < W.vectors → (s : ℕ) → s < M.states → W.covers v s ≡ true
    → (o : ℕ) → o < M.observations → (s' : ℕ) → s' < M.states → 0 < M.transition s (W.action v) s' * M.observation (W.action v) s' o
    → L.covers (W.choice v o) s' ≡ true
unfolding masks_verdict
masks-in M L W e v l s b c o k s' b' above =
    let from = only_if (W.covers v s) _ (every-at M.states _ (unless-fine _ 21 v (fine-at _ W.vectors e v l)) s b) c in
    let to = every-at M.states _ (every-at M.observations _ from o k) s' b' in
    rw (ne_eqb (M.transition s (W.action v) s' * M.observation (W.action v) s' o) 0 (λ z. omega (arith, above))) at to
