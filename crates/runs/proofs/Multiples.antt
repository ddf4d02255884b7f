-- Multiples and sums of mixtures, proved over the definitions that the contracts name. Assumes nothing.
--
-- In order: what a mixture that is not refused has passed; a multiple of it within the limits is not refused either; the claim.
use Rattle.std.specs.Prelude.{Result, Ok, Err}
use Rattle.integers.proofs.Kit.{◌≡◌, ◌∙◌, refl, ap, true, List, ℕ, ◌<◌, lt-ltb, ltb-true, ℤ, arith}
use Rattle.integers.proofs.Searches.{some-cong}
use Rattle.tables.specs.Tables.{Tables}
use Rattle.refusals.specs.declared.Refusal.{Refusal}
use Rattle.refusals.specs.Verdicts.{Verdict, Fine, unless}
use Rattle.tables.specs.Limits.{max_vectors}
use Rattle.tables.specs.Model.{Model}
use Rattle.tables.specs.Storage.{weight_in, model_of}
use Rattle.refusals.proofs.Refusals.{before-fine, unless-fine}
use Rattle.plans.specs.Level.{Level}
use Rattle.plans.specs.Totals.{some_counts}
use Rattle.plans.proofs.Multiples.{counts-times, lower-times, upper-times, lower-sum}
use Rattle.levels.specs.Storage.{Lent, level_of, number_in, standing_in, informed_in}
use Rattle.levels.specs.Judged.{holds}
use Rattle.levels.proofs.Laws.{passed, fine_before}
use Rattle.runs.specs.declared.Bounds.{Bounds}
use Rattle.runs.specs.State.{mixture_holds, standing_verdict, totals_verdict, bounds_by, totals_of}
use Rattle.runs.specs.Multiples.{Times, Given, Multiples}
use Rattle.runs.proofs.Judged.{Held, standing-true}

-- where totals are given, they are those of the level
given-fine : (v : Verdict) (M : Model) (L : Level) (F : ℕ → ℕ → ℤ) (b : ℕ → ℕ) {y : Bounds} → bounds_by v M L F b ≡ Ok y → v ≡ Fine
given-fine (Ok u) M L F b e = refl
given-fine (Err r) M L F b e = let z : ◌≡◌ {A = ℕ} 0 1 = cc in absurd (let n : ⊥ = omega arith in n)

given-is : {y y' : Bounds} → ◌≡◌ {A = Result Bounds Refusal} (Ok y) (Ok y') → y ≡ y'
given-is e = cc

module _ (m : Tables) (x : Lent) where
  abbrev M : Model
  M = model_of m

  abbrev L : Level
  L = level_of m (standing_in x)

  -- what totals that are given have passed
  record Passed (b : List ℕ) (y : Bounds) : Type 0 where
    fine : totals_verdict m x b ≡ Fine
    is : bounds_by Fine M L (informed_in m x) (weight_in b) ≡ Ok y
    held : holds m x ≡ true
    above : 0 < number_in x
    counted : some_counts M L (weight_in b) ≡ true

  passes : (b : List ℕ) {y : Bounds} → Given m x b y → Passed b y
  unfolding totals_of totals_verdict standing_verdict
  passes b g =
      let e : totals_verdict m x b ≡ Fine = given-fine (totals_verdict m x b) M L (informed_in m x) (weight_in b) g in
      let asked = before-fine (standing_verdict m x) _ e in
      let stood = before-fine _ _ asked.0 in
      let e17 = before-fine (unless (mixture_holds m.states b) 17 0) (unless (some_counts M L (weight_in b)) 22 0) asked.1 in
      record {
        fine = e;
        is = rw e at g;
        held = unless-fine _ 7 0 stood.0;
        above = ltb-true _ _ (unless-fine _ 16 0 stood.1);
        counted = unless-fine _ 22 0 e17.1;
      }

  stands : (b : List ℕ) {y : Bounds} → Passed b y → Held max_vectors m x
  stands b p = standing-true max_vectors m x p.held

  -- At c times the weights the same vectors count, so totals are given there too. The rest is `lower-times` and `upper-times`. Qed.
  module _ (c : ℕ) (some : 0 < c) (b b' : List ℕ) (same : Times m.states c b b') where
    still : {y : Bounds} → Passed b y → mixture_holds m.states b' ≡ true → totals_verdict m x b' ≡ Fine
    unfolding totals_verdict standing_verdict
    still p h =
        fine_before (fine_before (passed 7 0 p.held) (passed 16 0 (lt-ltb _ _ p.above))) (fine_before (passed 17 0 h)
        (passed 22 0 (some-cong L.vectors _ _ (λ v l. counts-times m.states c (weight_in b) (weight_in b') same some L v) ∙ p.counted)))

  -- Multiplying all weights by a whole number multiplies the lower total by it and the upper total by at most it; the lower total at a sum is at most the
  -- sum of the lower totals. Qed.
  pub multiples : Multiples m x
  unfolding totals_of
  multiples = record {
    multiple = λ c some b b' same y g h.
        let p = passes b g in
        let t = stands b p in
        rw (← given-is p.is) record {
          answer = _;
          given = ap (λ (v : Verdict). bounds_by v M L (informed_in m x) (weight_in b')) (still c some b b' same p h);
          lower_is = lower-times M c (weight_in b) (weight_in b') same L some p.counted;
          upper_most = upper-times M c (weight_in b) (weight_in b') same L (informed_in m x) t.valid-tables.some_actions;
        };
    sum = λ b b' b'' same y y' y'' g g' g''.
        let p = passes b'' g'' in
        rw (← given-is (passes b g).is, ← given-is (passes b' g').is, ← given-is p.is)
        (lower-sum M L (stands b'' p).shaped.some_vectors (weight_in b) (weight_in b') (weight_in b'') same p.counted);
  }
