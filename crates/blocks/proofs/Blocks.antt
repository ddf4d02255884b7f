-- Laws of offers that lie packed in slices. Assumes nothing.
--
--   enough-none, enough-some   a length, tested by division
--   packs, packs-less          what 9 leaves known, and of fewer blocks
use Rattle.integers.proofs.Kit.{◌≡◌, ◌∙◌, sym, true, ℕ, ◌≤◌, ◌<◌, ◌+◌, ◌*◌, ◌/◌, arith, dec_lt, le-leb, leb-true, lt-leb, leb}
use native.Mathlib.Nat as NatL
use Rattle.integers.proofs.Searches.{and-true}
use Rattle.tables.specs.Tables.{Tables}
use Rattle.tables.specs.Limits.{max_states, max_observations}
use Rattle.blocks.specs.Blocks.{Packed, packed_fits}
use Rattle.blocks.specs.Steps.{Packs}

-- ---- a length, tested by division
pub enough-none : (count long : ℕ) {width : ℕ} → width ≡ 0 → true ≡ leb (count * width) long
enough-none count long e = rw e (sym (le-leb (count * 0) long (omega (arith, NatL.mul-zero count))))

pub enough-some : (count width long : ℕ) → 0 < width → leb count (long / width) ≡ leb (count * width) long
enough-some count width long some = by (dec_lt (long / width) count)
  where
    by : Dec (long / width < count) → leb count (long / width) ≡ leb (count * width) long
    by (yes h) = lt-leb _ _ h ∙ sym (lt-leb _ _ ((NatL.div-lt_iff_lt-mul some).0 h))
    by (no h) =
        let l : count ≤ long / width = omega arith in
        le-leb _ _ l ∙ sym (le-leb _ _ ((NatL.le-div_iff_mul-le some).0 l))

-- ---- what 9 leaves known
pub packs : (m : Tables) (b : Packed) (count : ℕ) → m.states ≤ max_states → m.observations ≤ max_observations → packed_fits m b count ≡ true
    → Packs m.states m.observations count b
packs m b count n k e =
    let v = and-true _ _ e in
    let p = and-true _ _ v.1 in
    let vectors = and-true _ _ p.1 in
    let points = and-true _ _ vectors.1 in
    let actions = and-true _ _ points.1 in
    let choices = and-true _ _ actions.1 in
    let masks = and-true _ _ choices.1 in
    let entries = and-true _ _ masks.1 in
    let corners = and-true _ _ entries.1 in
    let weights = and-true _ _ corners.1 in
    record {
      few_states = n;
      few_observations = k;
      few_vectors = leb-true _ _ v.0;
      few_points = leb-true _ _ p.0;
      vectors = leb-true _ _ vectors.0;
      points = leb-true _ _ points.0;
      actions = leb-true _ _ actions.0;
      choices = leb-true _ _ choices.0;
      masks = leb-true _ _ masks.0;
      entries = leb-true _ _ entries.0;
      corners = leb-true _ _ corners.0;
      weights = leb-true _ _ weights.0;
      values = leb-true _ _ weights.1;
    }

fewer : (w i count long : ℕ) → i < count → count * w ≤ long → (i + 1) * w ≤ long
fewer w i count long l h = omega (arith, NatL.mul-le-mul_right w (let k : i + 1 ≤ count = omega arith in k))

pub packs-less : {n k count i : ℕ} {b : Packed} → i < count → Packs n k count b → Packs n k (i + 1) b
packs-less {n} {k} {count} {i} {b} l h = record {
  few_states = h.few_states;
  few_observations = h.few_observations;
  few_vectors = h.few_vectors;
  few_points = h.few_points;
  vectors = omega (arith, h.vectors);
  points = omega (arith, h.points);
  actions = fewer b.v i count _ l h.actions;
  choices = fewer (b.v * k) i count _ l h.choices;
  masks = fewer b.v i count _ l h.masks;
  entries = fewer (b.v * n) i count _ l h.entries;
  corners = fewer n i count _ l h.corners;
  weights = fewer (b.p * n) i count _ l h.weights;
  values = fewer b.p i count _ l h.values;
}
