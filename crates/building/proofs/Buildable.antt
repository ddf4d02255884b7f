-- What the tests of building leave known; and what is written is what it is said to leave. Assumes nothing.
--
-- In order: room for the points' weights; what 7, 8, 9 and 12 leave known; some vector covers all states; what a test leaves; what is built, refused or
-- not.
use Rattle.integers.proofs.Kit.{◌≡◌, sym, true, false, Bool, ℕ, ◌≤◌, ◌<◌, ◌*◌, leb-true, ltb-true, leb, get_or}
use Rattle.std.specs.Prelude.{Err}
use Rattle.integers.proofs.Searches.{and-true, some-cong}
use Rattle.tables.specs.Tables.{Tables}
use Rattle.refusals.specs.declared.Refusal.{Refusal}
use Rattle.refusals.specs.Verdicts.{Fine, unless, left}
use Rattle.tables.specs.Limits.{max_vectors, max_levels}
use Rattle.tables.specs.Storage.{model_of}
use Rattle.refusals.proofs.Refusals.{before-fine, unless-fine}
use Rattle.masks.specs.Masks.{mask_of}
use Rattle.masks.specs.Steps.{some_includes}
use Rattle.masks.proofs.Bits.{includes-every}
use Rattle.plans.specs.Limits.{max_built}
use Rattle.plans.specs.Level.{covers_all, IsPoint}
use Rattle.plans.specs.Build.{some_covers_all}
use Rattle.levels.specs.Storage.{Cells, Lent, level_of, point_in, long_enough, complete, over, number_in, standing_in}
use Rattle.runs.specs.State.{answer_for, build_verdict, built_from, built_of}
use Rattle.runs.proofs.Judged.{Held, standing-true, weights-fine}

-- slices that are long enough have room for the points' weights
pub weights_long : (n vectors points actions masks entries corners weights values : ℕ)
    → long_enough n vectors points actions masks entries corners weights values ≡ true → points * n ≤ weights
weights_long n vectors points actions masks entries corners weights values e =
    let a = and-true (leb vectors actions) _ e in
    let b = and-true (leb vectors masks) _ a.1 in
    let c = and-true (leb (vectors * n) entries) _ b.1 in
    let d = and-true (leb n corners) _ c.1 in
    leb-true _ _ (and-true (leb (points * n) weights) (leb points values) d.1).0

-- what 7, 8, 9 and 12 leave known
pub record Buildable (m : Tables) (x : Lent) (count : ℕ) (y : Cells) : Type 0 where
  pub standing : Held max_vectors m x
  pub room : number_in x < max_levels
  pub few : count ≤ max_built
  pub whole : complete m (answer_for m count y) ≡ true
  pub total : (i : ℕ) → i < count → IsPoint m.states (point_in m.states y.weights i)

-- the mask of some vector has all states, exactly where the vector covers them
pub some-covers : (m : Tables) (x : Lent)
    → some_includes x.cells.masks (standing_in x).vectors (mask_of m.states (λ s. true)) ≡ some_covers_all (model_of m) (level_of m (standing_in x))
unfolding covers_all
some-covers m x = some-cong (standing_in x).vectors _ _ (λ v l. includes-every m.states (get_or x.cells.masks v 0) (λ s. true))

-- what a test leaves: the new where it passes, the old where it fails
pub left-passes : {A : Type 0} {b : Bool} {new made : A} (k i : ℕ) (old : A) → b ≡ true → made ≡ new → made ≡ left (unless b k i) new old
left-passes k i old e f = rw e f

pub left-breaks : {A : Type 0} {b : Bool} {old : A} (k i : ℕ) (new : A) → b ≡ false → old ≡ left (unless b k i) new old
left-breaks k i new e = rw e

module _ (m : Tables) (x : Lent) (count : ℕ) (y : Cells) where
  pub buildable : build_verdict m x count y ≡ Fine → Buildable m x count y
  unfolding build_verdict
  buildable e =
      let e8 = before-fine _ _ e in
      let e9 = before-fine _ _ e8.1 in
      let e12 = before-fine _ _ e9.1 in
      let e22 = before-fine _ _ e12.1 in
      let sizes = and-true (leb count max_built) _ (unless-fine _ 9 0 e12.0) in
      record {
        standing = standing-true max_vectors m x (unless-fine _ 7 0 e8.0);
        room = ltb-true _ _ (unless-fine _ 8 0 e9.0);
        few = leb-true _ _ sizes.0;
        whole = sizes.1;
        total = weights-fine _ _ _ e22.0;
      }

  pub built-refused : {e : Refusal} → Err e ≡ build_verdict m x count y → y ≡ built_of m x count y
  unfolding built_of
  built-refused h = rw (sym h)

  pub built-fine : Fine ≡ build_verdict m x count y → {z : Cells}
      → z ≡ over m (built_from m (level_of m (standing_in x)) count y) y → z ≡ built_of m x count y
  unfolding built_of
  built-fine h g = rw (sym h) g
